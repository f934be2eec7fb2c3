-- Two members beside each other: the starts of one by the places, and the uses of the other.
use Rattle.std.proofs.Common.{◌≡◌, ℕ, ◌+◌, ◌<◌, Bool, true, false, ◌==◌, ◌&&◌, List, [], ◌∷◌, length, take, get_or, set, inl, inr, refl, sym, ap, subst, ◌∙◌, arith}
use Rattle.std.specs.Prelude.{ℤ, Option, Some, None, ◌≤ℤ◌, ◌<ℤ◌, IfSome, find, nat_lt, option_map, slice_index_or}
use Rattle.std.specs.Option.{option_or}
use Rattle.std.specs.List.{list_any, range_with_len, All}
use Rattle.std.specs.Cmp.{both_ways}
use Rattle.std.proofs.lemmas.Bool.{cases_Bool, cases_eq, eqb-true, eq-eqb}
use Rattle.std.proofs.lemmas.Int.{ints}
use Rattle.rail_model.proofs.Numbers.{not_lt_from_le, test_from_lt}
use Rattle.std.proofs.lemmas.List.{take_more, get_or_default, get_or-take, length-take-le, get_or-set_same, get_or-set_other}
use Rattle.std.proofs.lemmas.List.Elements.{All-weaker}
use Rattle.std.proofs.lemmas.List.Folds.{Any-from_list_any, list_any_at, list_any_none, find-append}
use Rattle.rail_model.specs.declared.stair.Use.{Use}
use Rattle.plan_model.specs.declared.cut.Cut.{Cut}
use Rattle.plan_model.specs.Members.{place_count, places, member, member_count, no_member, no_use, uses_place, precedes, precedes_somewhere}
use Rattle.plan_model.specs.Disorder.{are_opposite}
use Rattle.plan_model.specs.Cut.{IsSoundCut, AreOfOtherPlaces}
use Rattle.plan_model.proofs.MemberTests.{has_any, has-range}
use Rattle.plan_model.proofs.UseFound.{found_at, not_found}
use Rattle.train_order.specs.Starts.{start_of, starts_first}
use Rattle.train_order.specs.OutOfTurn.{AreFrom, AreStarts, leads_at, trails_at}
use Rattle.train_order.proofs.Find.{find_some}
use Rattle.train_order.proofs.Linked.{test_is}
use Rattle.train_order.proofs.Users.{users}

-- ---- one use more in the table

or_none : (o : Option Use) → option_or o None ≡ o
or_none None = refl
or_none (Some u) = refl

pub start_more : (starts : List (Option ℤ)) (uses : List Use) (k : ℕ) → AreOfOtherPlaces uses → k < length uses
    → (get_or uses k no_use).block < length starts
    → ((place : ℕ) → get_or starts place None ≡ start_of (take k uses) place) → (place : ℕ)
    → get_or (set starts (get_or uses k no_use).block (Some (get_or uses k no_use).start)) place None ≡ start_of (take (k + 1) uses) place
start_more starts uses k differ l there so place =
    let u = get_or uses k no_use in
    let test : Use → Bool = λ w. w.block == place in
    let start : Use → ℤ = λ w. w.start in
    let more : start_of (take (k + 1) uses) place ≡ option_map start (option_or (find test (take k uses)) (find test (u ∷ []))) =
    ap (λ us. start_of us place) (take_more uses k no_use l) ∙ ap (option_map start) (find-append test (take k uses) (u ∷ [])) in
    elim (cases_Bool (u.block == place)) [
      | inl e ↦
          let is : u.block ≡ place = eqb-true u.block place e in
          let none : find test (take k uses) ≡ None =
          not_found place (take k uses) (λ m lm q.
          let lk : m < k = omega (arith, lm, length-take-le k uses (omega (arith, l))) in
          differ m k no_use lk l (ap (λ (w : Use). w.block) (sym (get_or-take k uses m no_use lk)) ∙ q ∙ sym is)) in
          let one : find test (u ∷ []) ≡ Some u = rw e refl in
          subst (λ p. get_or (set starts u.block (Some u.start)) p None ≡ Some u.start) is
          (get_or-set_same starts u.block (Some u.start) None there)
          ∙ sym (more ∙ ap (λ o. option_map start (option_or o (find test (u ∷ [])))) none ∙ ap (option_map start) one)
      | inr e ↦
          let one : find test (u ∷ []) ≡ None = rw e refl in
          get_or-set_other starts u.block place (Some u.start) None (λ (q : place ≡ u.block).
          let t : (u.block == place) ≡ true = eq-eqb u.block place (sym q) in
          let f : true ≡ false = sym t ∙ e in (cc))
          ∙ so place
          ∙ sym (more ∙ ap (λ o. option_map start (option_or (find test (take k uses)) o)) one
          ∙ ap (option_map start) (or_none (find test (take k uses))))
    ]

-- the moment before which none is
pub from_more : (starts : List (Option ℤ)) (block : ℕ) (s least now : ℤ) → block < length starts → now ≤ℤ s → now ≤ℤ least
    → AreFrom least starts → AreFrom now (set starts block (Some s))
from_more starts block s least now there a b so place =
    elim (cases_eq place block) [
      | inl e ↦
          subst (λ p. IfSome (get_or (set starts block (Some s)) p None) (λ t. now ≤ℤ t)) (sym e)
          (subst (λ o. IfSome o (λ t. now ≤ℤ t)) (sym (get_or-set_same starts block (Some s) None there)) a)
      | inr ne ↦
          subst (λ o. IfSome o (λ t. now ≤ℤ t)) (sym (get_or-set_other starts block place (Some s) None ne))
          (below (get_or starts place None) (so place))
    ] where
      below : (o : Option ℤ) → IfSome o (λ t. least ≤ℤ t) → IfSome o (λ t. now ≤ℤ t)
      below None h = h
      below (Some t) h = let l : least ≤ℤ t = h in omega (arith, ints, l, b)

-- a member with these starts precedes none that starts before them
pub none_led : (named : Bool) (starts : List (Option ℤ)) (least : ℤ) → AreFrom least starts → (uses : List Use)
    → All (λ (u : Use). u.start <ℤ least) uses → list_any (leads_at named starts) uses ≡ false
none_led named starts least from uses before =
    list_any_none (leads_at named starts) uses
    (All-weaker (λ (u : Use). u.start <ℤ least) (λ u. leads_at named starts u ≡ false)
    (λ u l. never (slice_index_or starts u.block None) u.start (from u.block) l) uses before) where
      never : (o : Option ℤ) (t : ℤ) → IfSome o (λ s. least ≤ℤ s) → t <ℤ least → starts_first named o (Some t) ≡ false
      never None t h l = refl
      never (Some s) t h l =
          let low : least ≤ℤ s = h in
          let a = not_lt_from_le s t (omega (arith, ints, low, l)) in
          let b = test_from_lt t s (omega (arith, ints, low, l)) in
          rw (a, b) refl

-- ---- which of two members precedes the other somewhere

module _ (cut : Cut) (sound : IsSoundCut cut) (i j : ℕ) (li : i < member_count cut) (lj : j < member_count cut)
    (starts : List (Option ℤ)) (first : ℤ) (are : AreStarts cut i starts first) where
  abbrev uses : List Use
  uses = (member cut j).uses

  abbrev its_use : ℕ → Use
  its_use k = get_or uses k no_use

  own : (k : ℕ) → k < length uses → start_of uses (its_use k).block ≡ Some (its_use k).start
  own k l = ap (option_map (λ (u : Use). u.start)) (found_at (its_use k).block uses k (sound.each j no_member lj).places_differ l refl)

  leads_is : (k : ℕ) → k < length uses
      → leads_at (nat_lt i j) starts (its_use k) ≡ precedes (member cut i) (member cut j) (its_use k).block
  leads_is k l =
      let place = (its_use k).block in
      ap (λ o. starts_first (nat_lt i j) o (Some (its_use k).start)) (are.each place)
      ∙ ap (λ o. starts_first (nat_lt i j) (start_of (member cut i).uses place) o) (sym (own k l))
      ∙ sym (test_is cut sound i j li lj place)

  trails_is : (k : ℕ) → k < length uses
      → trails_at (nat_lt j i) starts (its_use k) ≡ precedes (member cut j) (member cut i) (its_use k).block
  trails_is k l =
      let place = (its_use k).block in
      ap (λ o. starts_first (nat_lt j i) (Some (its_use k).start) o) (are.each place)
      ∙ ap (λ o. starts_first (nat_lt j i) o (start_of (member cut i).uses place)) (sym (own k l))
      ∙ sym (test_is cut sound j i lj li place)

  -- a test of the uses is one of all places, where a place that passes is used
  any_use : (test : Use → Bool) (at : ℕ → Bool) → ((k : ℕ) → k < length uses → test (its_use k) ≡ at (its_use k).block)
      → ((place : ℕ) → at place ≡ true → uses_place (member cut j) place ≡ true)
      → list_any test uses ≡ list_any at (places cut)
  any_use test at same used =
      both_ways (list_any test uses) (list_any at (places cut))
      (λ h.
      let some = Any-from_list_any test uses h in
      let k = some.0 in
      let is : its_use k ≡ some.1 = get_or_default uses k no_use some.1 some.2 ∙ some.3 in
      let passes : at (its_use k).block ≡ true = sym (same k some.2) ∙ subst (λ w. test w ≡ true) (sym is) some.4 in
      has_any at (range_with_len 0 (place_count cut)) (its_use k).block
      (has-range (place_count cut) (its_use k).block ((sound.each j no_member lj).each k no_use some.2).place) passes)
      (λ h.
      let one = find_some at (places cut) h in
      let some = Any-from_list_any (λ (u : Use). u.block == one.0) uses (used one.0 one.3) in
      let k = some.0 in
      let is : its_use k ≡ some.1 = get_or_default uses k no_use some.1 some.2 ∙ some.3 in
      let place : (its_use k).block ≡ one.0 = ap (λ (u : Use). u.block) is ∙ eqb-true some.1.block one.0 some.4 in
      list_any_at test uses k no_use some.2 (same k some.2 ∙ subst (λ p. at p ≡ true) (sym place) one.3))

  leads_somewhere : list_any (leads_at (nat_lt i j) starts) uses ≡ precedes_somewhere cut i j
  leads_somewhere =
      any_use (leads_at (nat_lt i j) starts) (precedes (member cut i) (member cut j)) leads_is (λ place p. (users cut i j place p).1)

  trails_somewhere : list_any (trails_at (nat_lt j i) starts) uses ≡ precedes_somewhere cut j i
  trails_somewhere =
      any_use (trails_at (nat_lt j i) starts) (precedes (member cut j) (member cut i)) trails_is (λ place p. (users cut j i place p).0)

  pub opposite_is : (its : List Use) → its ≡ uses
      → (list_any (leads_at (nat_lt i j) starts) its && list_any (trails_at (nat_lt j i) starts) its) ≡ are_opposite cut i j
  opposite_is its e =
      ap (λ us. list_any (leads_at (nat_lt i j) starts) us && list_any (trails_at (nat_lt j i) starts) us) e
      ∙ ap (λ b. b && list_any (trails_at (nat_lt j i) starts) uses) leads_somewhere
      ∙ ap (λ b. precedes_somewhere cut i j && b) trails_somewhere

  pub none_opposite : (its : List Use) → its ≡ uses → All (λ (u : Use). u.start <ℤ first) its → false ≡ are_opposite cut i j
  none_opposite its e before =
      ap (λ b. b && list_any (trails_at (nat_lt j i) starts) its) (sym (none_led (nat_lt i j) starts first are.from its before))
      ∙ opposite_is its e
