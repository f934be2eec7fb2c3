-- The tie of a train names a train that precedes it, and a place.
use Rattle.std.proofs.Common.{◌≡◌, ℕ, ◌<◌, true, List, inl, inr, ap, subst, arith}
use Rattle.std.specs.Prelude.{ℤ, not, Option, None, Some, filter, unwrap_or, option_map, option_and_then}
use Rattle.std.specs.List.{list_any, list_all}
use Rattle.std.specs.Ordering.{int_eq}
use Rattle.std.proofs.lemmas.Bool.{cases_Bool, and_parts}
use Rattle.std.proofs.lemmas.Option.{none-some, same_Some}
use Rattle.rail_model.specs.Name.{is_before}
use Rattle.plan_model.specs.declared.cut.Cut.{Cut}
use Rattle.plan_model.specs.declared.answer.Tie.{Tie}
use Rattle.plan_model.specs.declared.answer.Tie.TheVariants.{Start, After}
use Rattle.plan_model.specs.Members.{places, place_name, place_count, member, member_count, members, precedes, precedes_somewhere}
use Rattle.plan_model.specs.Schedule.{window_start, entry_at, touches, touch, touching_member, touching_place, tie_of}
use Rattle.plan_model.proofs.MemberTests.{has, has_any, filter-has, in_range}
pub use Rattle.train_order.proofs.Find.{found}

not_start : (o : Option Tie) (i b : ℕ) → unwrap_or o Start ≡ After i b → o ≡ Some (After i b)
not_start None i b e = absurd (cc)
not_start (Some t) i b e = ap Some e

of_place : (k : ℕ) (o : Option ℕ) (i b : ℕ) → option_map (After k) o ≡ Some (After i b) → (k ≡ i) × (o ≡ Some b)
of_place k None i b e = absurd (none-some (After i b) e)
of_place k (Some p) i b e =
    let same : After k p ≡ After i b = same_Some _ _ e in
    let one : k ≡ i = cc in
    let other : p ≡ b = cc in
    (one, ap Some other)

of_member : (o : Option ℕ) (at : ℕ → Option ℕ) (i b : ℕ) → option_and_then (λ k. option_map (After k) (at k)) o ≡ Some (After i b)
    → (o ≡ Some i) × (at i ≡ Some b)
of_member None at i b e = absurd (none-some (After i b) e)
of_member (Some k) at i b e =
    let parts = of_place k (at k) i b e in
    (ap Some parts.0, subst (λ m. at m ≡ Some b) parts.0 parts.1)

-- a tie names a member that precedes, and a place
pub record IsBound (cut : Cut) (i block j : ℕ) : Type 0 where
  pub member : i < member_count cut
  pub place : block < place_count cut
  pub before : precedes_somewhere cut i j ≡ true

module _ (cut : Cut) (entries : List ℤ) (i block j : ℕ) (tie : tie_of cut entries j ≡ After i block) where
  touch_is : touch cut entries j ≡ Some (After i block)
  touch_is =
      elim (cases_Bool (int_eq (entry_at entries j) (window_start cut))) [
        | inl e ↦ absurd (let same : Start ≡ After i block = rw e at tie in cc)
        | inr ne ↦ not_start (touch cut entries j) i block (rw ne at tie)
      ]

  one : (has (members cut) i ≡ true) × (list_any (touches cut entries i j) (places cut) ≡ true)
  one =
      found (λ k. list_any (touches cut entries k j) (places cut)) (members cut) i
      (of_member (touching_member cut entries j) (λ k. touching_place cut entries k j) i block touch_is).0

  pub touched_by : list_any (touches cut entries i j) (places cut) ≡ true
  touched_by = one.1

  parts : (touching_member cut entries j ≡ Some i) × (touching_place cut entries i j ≡ Some block)
  parts = of_member (touching_member cut entries j) (λ k. touching_place cut entries k j) i block touch_is

  -- the member touches there, and is the first that touches, and the place the first by name at which it does
  pub record IsFirstTouch : Type 0 where
    pub touch : touches cut entries i j block ≡ true
    pub member : touching_member cut entries j ≡ Some i
    pub there : has (places cut) block ≡ true
    pub first : list_all (λ c. not (is_before (place_name cut c) (place_name cut block))) (filter (touches cut entries i j) (places cut)) ≡ true

  pub touch_at : IsFirstTouch
  touch_at =
      let place =
      found (λ b. list_all (λ c. not (is_before (place_name cut c) (place_name cut b))) (filter (touches cut entries i j) (places cut)))
      (filter (touches cut entries i j) (places cut)) block parts.1 in
      let touched = filter-has (touches cut entries i j) (places cut) block place.0 in
      record { touch = touched.1; member = parts.0; there = touched.0; first = place.1 }

  pub bound : IsBound cut i block j
  bound = record {
    member = omega (arith, in_range 0 (member_count cut) i one.0);
    place = omega (arith, in_range 0 (place_count cut) block touch_at.there);
    before =
        has_any (precedes (member cut i) (member cut j)) (places cut) block touch_at.there
        (and_parts (precedes (member cut i) (member cut j) block) _ touch_at.touch).0;
  }
