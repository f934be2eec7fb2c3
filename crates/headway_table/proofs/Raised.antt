-- The greatest of a train's uses tells the headway.
use Rattle.std.proofs.Common.{◌≡◌, ℕ, suc, ◌<◌, true, List, [], ◌∷◌, length, map, get_or, inl, inr, refl, ap, ◌∙◌, arith}
use Rattle.std.specs.Prelude.{int_lt, ℤ, ◌-ℤ◌, ◌<ℤ◌, ◌≤ℤ◌, Option, None, Some, filter, fold}
use Rattle.std.specs.Int.{int_max}
use Rattle.std.specs.List.{All}
use Rattle.std.proofs.lemmas.Bool.{cases_Bool}
use Rattle.std.proofs.lemmas.Int.{ints, int_max_is}
use Rattle.rail_model.specs.declared.stair.Use.{Use}
use Rattle.plan_model.specs.declared.cut.CutRow.{CutRow}
use Rattle.plan_model.specs.Cut.{IsMoment, IsUsable, AreOfOtherPlaces}
use Rattle.plan_model.specs.Members.{uses_place, use_at, headway, headway_at, shared_places}
use Rattle.headway_table.specs.declared.starts.TheConstants.{FREE}
use Rattle.headway_table.specs.declared.row.TheConstants.{NEVER, LEAST_HEADWAY}
use Rattle.headway_table.specs.Starts.{start_in}
use Rattle.headway_table.specs.Numbers.{raised_by, greatest_by, headway_of}
use Rattle.headway_table.proofs.Found.{at_own}
use Rattle.plan_model.proofs.Sound.{of_all}
use Rattle.headway_table.proofs.Walked.{step, steps_is}
use Rattle.headway_table.proofs.StartOf.{start_is}

-- a number tells the greatest of some headways, or that there is none
abbrev Tells : ℤ → Option ℤ → Type 0
Tells z None = z <ℤ LEAST_HEADWAY
Tells z (Some v) = (z ≡ v) × (LEAST_HEADWAY ≤ℤ v)

module _ (places : ℕ) (a b : CutRow) (na : IsUsable places a) (nb : IsUsable places b) (db : AreOfOtherPlaces b.uses) where
  -- with a place that both use
  with_shared : (z v : ℤ) (so_far : Option ℤ) → Tells z so_far → LEAST_HEADWAY ≤ℤ v
      → Tells (int_max z v) (step so_far v)
  with_shared z v None tells least = (omega (arith, ints, int_max_is z v, tells, least), least)
  with_shared z v (Some w) tells least =
      (ap (λ x. int_max x v) tells.0, omega (arith, ints, int_max_is w v, tells.1))

  -- with a place that the other doesn't use
  with_free : (z v : ℤ) (so_far : Option ℤ) → Tells z so_far → v <ℤ LEAST_HEADWAY → Tells (int_max z v) so_far
  with_free z v None tells less = omega (arith, ints, int_max_is z v, tells, less)
  with_free z v (Some w) tells less = (omega (arith, ints, int_max_is z v, tells.0, tells.1, less), tells.1)

  least : (u w : Use) → IsMoment u.«end» → IsMoment w.start
      → LEAST_HEADWAY ≤ℤ ((u.«end» -ℤ a.entry) -ℤ (w.start -ℤ b.entry))
  least u w ends starts =
      omega (arith, ints, ends.after, starts.before, na.entry.before, nb.entry.after)

  never : (u : Use) → IsMoment u.«end» → ((u.«end» -ℤ a.entry) -ℤ FREE) <ℤ LEAST_HEADWAY
  never u ends = omega (arith, ints, ends.before, na.entry.after)

  found_start : (p : ℕ) → uses_place b p ≡ true → IsMoment (use_at b p).start
  found_start p used = of_all (λ u. IsMoment u.start) b.uses p nb.starts used

  -- all uses
  all_tell : (z : ℤ) (so_far : Option ℤ) (uses : List Use)
      → ((i : ℕ) (d : Use) → i < length uses → use_at a (get_or uses i d).block ≡ get_or uses i d)
      → All (λ u. IsMoment u.«end») uses → Tells z so_far
      → Tells (fold (raised_by a b) z uses)
      (fold step so_far (map (headway_at a b) (filter (uses_place b) (map (λ u. u.block) uses))))
  all_tell z so_far [] own ends tells = tells
  all_tell z so_far (u ∷ uses) own ends tells =
      let itself : use_at a u.block ≡ u = own 0 u (omega arith) in
      let end : IsMoment u.«end» = ends 0 u (omega arith) in
      let rest : (x : ℤ) (o : Option ℤ) → Tells x o → Tells (fold (raised_by a b) x uses)
      (fold step o (map (headway_at a b) (filter (uses_place b) (map (λ (w : Use). w.block) uses)))) =
      λ x o t. all_tell x o uses (λ i d l. own (suc i) d (omega (arith, l)))
      (λ i d l. ends (suc i) d (omega (arith, l))) t in
      elim (cases_Bool (uses_place b u.block)) [
        | inl e ↦
            let start : start_in b u.block ≡ ((use_at b u.block).start -ℤ b.entry) =
            start_is b u.block db ∙ (rw e refl) in
            let headway : headway_at a b u.block
            ≡ ((u.«end» -ℤ a.entry) -ℤ ((use_at b u.block).start -ℤ b.entry)) =
            ap (λ (v : Use). (v.«end» -ℤ a.entry) -ℤ ((use_at b u.block).start -ℤ b.entry)) itself in
            rw (start, e, headway) (rest _ _ (with_shared z _ so_far tells
            (least u (use_at b u.block) end (found_start u.block e))))
        | inr e ↦
            let start : start_in b u.block ≡ FREE = start_is b u.block db ∙ (rw e refl) in
            rw (start, e) (rest _ so_far (with_free z _ so_far tells (never u end)))
      ]

-- what is told
told_is : (z : ℤ) (o : Option ℤ) → Tells z o → headway_of z ≡ o
told_is z None tells =
    elim (cases_Bool (int_lt z LEAST_HEADWAY)) [
      | inl e ↦ rw e refl
      | inr e ↦ absurd (grind (arith, ints, e, tells))
    ]
told_is z (Some v) tells =
    elim (cases_Bool (int_lt z LEAST_HEADWAY)) [
      | inl e ↦ absurd (grind (arith, ints, e, tells.0, tells.1))
      | inr e ↦ rw e (ap Some tells.0)
    ]

pub greatest_is : (places : ℕ) (a b : CutRow) → IsUsable places a → IsUsable places b → AreOfOtherPlaces a.uses → AreOfOtherPlaces b.uses
    → headway_of (greatest_by a b) ≡ headway a b
greatest_is places a b na nb da db =
    told_is (greatest_by a b) _ (all_tell places a b na nb db NEVER None a.uses (at_own a.uses da) na.ends (omega (arith, ints)))
    ∙ steps_is (map (headway_at a b) (shared_places a b))
