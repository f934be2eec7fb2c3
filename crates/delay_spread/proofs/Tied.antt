-- A tie names a member and a place of the cut.
use Rattle.std.proofs.Common.{◌≡◌, ℕ, ◌<◌, List, inl, inr, refl, sym, subst, arith}
use Rattle.std.specs.Prelude.{ℤ, Option, None, Some, unwrap_or, option_and_then, option_map}
use Rattle.std.specs.List.{list_any, list_all}
use Rattle.std.specs.Prelude.{not, filter}
use Rattle.std.specs.Ordering.{int_eq}
use Rattle.std.proofs.lemmas.Bool.{cases_Bool}
use Rattle.std.proofs.lemmas.List.FromFn.{length-map-range_with_len, get_or-map-range_with_len}
use Rattle.rail_model.specs.Name.{is_before}
use Rattle.plan_model.specs.declared.cut.Cut.{Cut}
use Rattle.plan_model.specs.declared.answer.Tie.TheVariants.{Start, After}
use Rattle.plan_model.specs.Members.{places, place_name, place_count, member_count, members}
use Rattle.plan_model.specs.Schedule.{entry_at, touches, touching_member, touching_place, tie_from}
use Rattle.plan_model.proofs.MemberTests.{filter-has, in_range}
use Rattle.train_order.proofs.Find.{found}
use Rattle.delay_spread.specs.declared.found.Held.{Held}
use Rattle.delay_spread.specs.Spreading.{delayed_floor, held_at, IsSpreadOf, IsTieOf, AreHeld}
use Rattle.delay_spread.specs.declared.found.Spread.{Spread}

module _ (cut : Cut) (entries : List ℤ) (j : ℕ) where
  member_there : (i : ℕ) → touching_member cut entries j ≡ Some i → i < member_count cut
  member_there i e =
      let one = found (λ k. list_any (touches cut entries k j) (places cut)) (members cut) i e in
      omega (arith, in_range 0 (member_count cut) i one.0)

  place_there : (i p : ℕ) → touching_place cut entries i j ≡ Some p → p < place_count cut
  place_there i p e =
      let some = filter (touches cut entries i j) (places cut) in
      let one = found (λ b. list_all (λ c. not (is_before (place_name cut c) (place_name cut b))) some) some p e in
      let at = filter-has (touches cut entries i j) (places cut) p one.0 in
      omega (arith, in_range 0 (place_count cut) p at.0)

  of_place : (i : ℕ) → i < member_count cut → (o : Option ℕ) → touching_place cut entries i j ≡ o
      → IsTieOf cut (unwrap_or (option_map (After i) o) Start)
  of_place i l None e = tt
  of_place i l (Some p) e = (l, place_there i p e)

  of_member : (o : Option ℕ) → touching_member cut entries j ≡ o
      → IsTieOf cut (unwrap_or (option_and_then (λ i. option_map (After i) (touching_place cut entries i j)) o) Start)
  of_member None e = tt
  of_member (Some i) e = of_place i (member_there i e) (touching_place cut entries i j) refl

  pub tie_there : (floor : ℕ → ℤ) → IsTieOf cut (tie_from cut floor entries j)
  tie_there floor =
      elim (cases_Bool (int_eq (entry_at entries j) (floor j))) [
        | inl e ↦ rw e tt
        | inr e ↦ rw e (of_member (touching_member cut entries j) refl)
      ]

pub are_held : (cut : Cut) (spread : Spread) → IsSpreadOf cut spread → AreHeld cut spread.held
are_held cut spread (delays, by) =
    let entries = by.0 in
    let same = by.2 in
    let n = member_count cut in
    let F = held_at cut delays entries in
    let long = length-map-range_with_len F 0 n in
    subst (λ (s : Spread). AreHeld cut s.held) (sym same)
    (record {
      count = long;
      ties = λ i d l.
          let li : i < n = omega (arith, l, long) in
          subst (λ (h : Held). IsTieOf cut h.tie) (sym (get_or-map-range_with_len F 0 n i i d li (omega arith)))
          (tie_there cut entries i (delayed_floor cut delays));
    })
