-- The use of a place among uses of different places, those of blocks first.
use Rattle.std.proofs.Common.{◌≡◌, ◌≢◌, ℕ, zero, suc, ◌-◌, ◌<◌, ◌≤◌, Bool, true, false, not, ◌==◌, List, [], ◌∷◌, length, get_or, inl, inr, refl, sym, ap, ◌∙◌, arith, length-append}
use Rattle.std.specs.Prelude.{Some, None, filter, find, nat_lt}
use Rattle.std.specs.List.{list_any}
use Rattle.std.proofs.lemmas.Bool.{cases_lt, eq-eqb, eqb-true, ne_eqb, lt-ltb, ltb-true, both_ways, not-true, false_from_ne_true}
use Rattle.std.proofs.lemmas.List.{get_or_append_left, get_or-append_right}
use Rattle.std.proofs.lemmas.List.Elements.{filter_passes}
use Rattle.std.proofs.lemmas.List.Folds.{Any-from_list_any}
use Rattle.rail_model.specs.declared.stair.Use.{Use}
use Rattle.plan_model.specs.Members.{no_use}
use Rattle.plan_model.specs.Cut.{AreOfOtherPlaces, AreBlocksFirst}

pub differ_tail : (u : Use) (uses : List Use) → AreOfOtherPlaces (u ∷ uses) → AreOfOtherPlaces uses
differ_tail u uses h = λ i j d l m. h (suc i) (suc j) d (omega (arith, l)) (omega (arith, m))

-- a place that the first of them uses is used by none of the others
pub no_other : (u : Use) (uses : List Use) (place : ℕ) → AreOfOtherPlaces (u ∷ uses) → u.block ≡ place
    → list_any (λ v. v.block == place) uses ≡ false
no_other u uses place differ e =
    false_from_ne_true (list_any (λ (v : Use). v.block == place) uses) (λ h.
    let some = Any-from_list_any (λ (v : Use). v.block == place) uses h in
    let is : some.1.block ≡ place = eqb-true some.1.block place some.4 in
    differ 0 (suc some.0) some.1 (omega arith) (omega (arith, some.2))
    (e ∙ sym is ∙ ap (λ (v : Use). v.block) (sym some.3)))

-- one of a place is found as the use of it
pub found_at : (place : ℕ) (uses : List Use) (k : ℕ) → AreOfOtherPlaces uses → k < length uses
    → (get_or uses k no_use).block ≡ place → find (λ (u : Use). u.block == place) uses ≡ Some (get_or uses k no_use)
found_at place [] k h l e = absurd (omega (arith, l))
found_at place (u ∷ uses) zero h l e = let t : (u.block == place) ≡ true = eq-eqb u.block place e in rw t refl
found_at place (u ∷ uses) (suc k) h l e =
    let apart : u.block ≢ (get_or uses k no_use).block = h 0 (suc k) no_use (omega arith) l in
    let t : (u.block == place) ≡ false = ne_eqb u.block place (λ q. apart (q ∙ sym e)) in
    rw t (found_at place uses k (differ_tail u uses h) (omega (arith, l)) e)

-- where none is of a place, none is found
pub not_found : (place : ℕ) (uses : List Use) → ((k : ℕ) → k < length uses → (get_or uses k no_use).block ≢ place)
    → find (λ (u : Use). u.block == place) uses ≡ None
not_found place [] h = refl
not_found place (u ∷ uses) h =
    let t : (u.block == place) ≡ false = ne_eqb u.block place (h 0 (omega arith)) in
    rw t (not_found place uses (λ k l e. h (suc k) (omega (arith, l)) e))

-- before a use of a block stand no uses of connections
module _ (blocks : ℕ) (uses : List Use) (first : AreBlocksFirst blocks uses) where
  abbrev on_block : Use → Bool
  on_block u = nat_lt u.block blocks

  abbrev front : List Use
  front = filter on_block uses

  abbrev back : List Use
  back = filter (λ u. not (on_block u)) uses

  pub blocks_before : (k l : ℕ) → k ≤ l → l < length uses → (get_or uses l no_use).block < blocks
      → (get_or uses k no_use).block < blocks
  blocks_before k l le ll below =
      elim (cases_lt l (length front)) [
        | inl lt ↦
            let here : get_or uses k no_use ≡ get_or front k no_use =
            ap (λ (us : List Use). get_or us k no_use) first ∙ get_or_append_left front back no_use k (omega arith) in
            ltb-true _ _ (ap on_block here ∙ filter_passes on_block uses k no_use (omega arith))
        | inr ge ↦
            let here : get_or uses l no_use ≡ get_or back (l - length front) no_use =
            ap (λ (us : List Use). get_or us l no_use) first ∙ get_or-append_right front back (length front) l no_use refl ge in
            let long : l - length front < length back = omega (arith, ll, ge, ap length first, length-append front back) in
            absurd (both_ways _ (ap on_block here ∙ not-true _ (filter_passes (λ u. not (on_block u)) uses (l - length front) no_use long)) (lt-ltb _ _ below))
      ]
