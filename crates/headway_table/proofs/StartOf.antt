-- The starts of a train's uses, by place.
use Rattle.std.proofs.Common.{◌≡◌, ℕ, suc, false, List, [], ◌∷◌, inl, inr, refl, arith}
use Rattle.std.specs.Prelude.{◌==◌, ℤ, ◌-ℤ◌, fold, if◌then◌else◌}
use Rattle.std.specs.List.{All, list_any}
use Rattle.std.proofs.lemmas.Bool.{cases_Bool, eqb-true, or_parts}
use Rattle.std.proofs.lemmas.Int.{ints}
use Rattle.rail_model.specs.declared.stair.Use.{Use}
use Rattle.plan_model.specs.declared.cut.CutRow.{CutRow}
use Rattle.plan_model.specs.Cut.{IsMoment, IsUsable, AreOfOtherPlaces}
use Rattle.plan_model.specs.Members.{uses_place, use_at}
use Rattle.plan_model.proofs.UseFound.{no_other}
use Rattle.headway_table.specs.declared.starts.TheConstants.{FREE}
use Rattle.headway_table.specs.Starts.{with_use_start, start_in, IsStart}
use Rattle.headway_table.proofs.Found.{at}

-- a place that is not used
untouched : (entry : ℤ) (p : ℕ) (start : ℤ) (uses : List Use) → list_any (λ u. u.block == p) uses ≡ false
    → fold (with_use_start entry p) start uses ≡ start
untouched entry p start [] h = refl
untouched entry p start (u ∷ uses) h =
    let parts = or_parts (u.block == p) (list_any (λ (v : Use). v.block == p) uses) h in
    rw parts.0 (untouched entry p start uses parts.1)

starts_are : (entry : ℤ) (p : ℕ) (uses : List Use) → AreOfOtherPlaces uses
    → fold (with_use_start entry p) FREE uses
    ≡ (if list_any (λ u. u.block == p) uses then (at uses p).start -ℤ entry else FREE)
starts_are entry p [] differ = refl
starts_are entry p (u ∷ uses) differ =
    elim (cases_Bool (u.block == p)) [
      | inl e ↦ rw e (untouched entry p _ uses (no_other u uses p differ (eqb-true u.block p e)))
      | inr e ↦
          rw e (starts_are entry p uses (λ i j d lt l. differ (suc i) (suc j) d (omega (arith, lt)) (omega (arith, l))))
    ]

pub start_is : (row : CutRow) (p : ℕ) → AreOfOtherPlaces row.uses
    → start_in row p ≡ (if uses_place row p then (use_at row p).start -ℤ row.entry else FREE)
start_is row p differ = starts_are row.entry p row.uses differ

-- starts are within the limits
bounded : (entry : ℤ) (p : ℕ) (start : ℤ) (uses : List Use) → IsMoment entry → IsStart start
    → All (λ u. IsMoment u.start) uses → IsStart (fold (with_use_start entry p) start uses)
bounded entry p start [] near is each = is
bounded entry p start (u ∷ uses) near is each =
    let first : IsMoment u.start = each 0 u (omega arith) in
    let rest : All (λ (v : Use). IsMoment v.start) uses = λ i d l. each (suc i) d (omega (arith, l)) in
    elim (cases_Bool (u.block == p)) [
      | inl e ↦
          rw e (bounded entry p (u.start -ℤ entry) uses near (record {
            after = omega (arith, ints, first.after, near.before);
            before = omega (arith, ints, first.before, near.after);
          }) rest)
      | inr e ↦ rw e (bounded entry p start uses near is rest)
    ]

pub start_bounded : (places : ℕ) (row : CutRow) (p : ℕ) → IsUsable places row → IsStart (start_in row p)
start_bounded places row p near =
    bounded row.entry p FREE row.uses near.entry (record {
      after = omega (arith, ints);
      before = omega (arith, ints);
    }) near.starts
