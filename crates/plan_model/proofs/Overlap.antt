-- A conflict of two members, held beside a conflict of a timetable.
use Rattle.std.proofs.Common.{◌≡◌, ℕ, true, List, [], ◌∷◌, ◌&&◌, sym, ◌∙◌, inl, inr, arith}
use Rattle.std.specs.Prelude.{◌==◌, find, unwrap_or, int_lt}
use Rattle.std.specs.List.{list_any}
use Rattle.std.proofs.lemmas.Bool.{cases_Bool, eqb-true, and_from, and_parts}
use Rattle.std.proofs.lemmas.Int.{ints}
use Rattle.rail_model.specs.declared.stair.Use.{Use}
use Rattle.plan_model.specs.Members.{uses_place, use_at, no_use}
use Rattle.plan_model.specs.Laws.{ConflictIsOverlap}

-- the use that is found is of the place
block_found : (uses : List Use) (place : ℕ) → list_any (λ u. u.block == place) uses ≡ true
    → (unwrap_or (find (λ u. u.block == place) uses) no_use).block ≡ place
block_found [] place h = absurd (cc)
block_found (u ∷ uses) place h =
    elim (cases_Bool (u.block == place)) [
      | inl e ↦ rw e (eqb-true u.block place e)
      | inr e ↦ rw e (block_found uses place (rw e at h))
    ]

pub conflict_is_overlap : ConflictIsOverlap
conflict_is_overlap i j place p q =
    let u = use_at i place in
    let v = use_at j place in
    let both : (uses_place i place && uses_place j place) ≡ true = and_from _ _ p q in (
      λ h.
          let times = (and_parts (uses_place i place && uses_place j place) _ h).1 in
          record {
            block = block_found i.uses place p ∙ sym (block_found j.uses place q);
            first = grind (arith, ints, (and_parts (int_lt u.start v.«end») (int_lt v.start u.«end») times).0);
            second = grind (arith, ints, (and_parts (int_lt u.start v.«end») (int_lt v.start u.«end») times).1);
          },
      λ o. and_from _ _ both
          (and_from (int_lt u.start v.«end») (int_lt v.start u.«end») (grind (arith, ints, o.first))
          (grind (arith, ints, o.second))),
    )
