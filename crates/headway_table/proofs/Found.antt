-- The use of a place among a row's uses.
use Rattle.std.proofs.Common.{◌≡◌, ℕ, ◌<◌, List, [], ◌∷◌, length, get_or, inl, inr, refl, ap}
use Rattle.std.specs.Prelude.{◌==◌, ℤ, ◌-ℤ◌, None, Some, find, unwrap_or, if◌then◌else◌, option_map}
use Rattle.std.specs.List.{list_any}
use Rattle.std.proofs.lemmas.Bool.{cases_Bool}
use Rattle.std.proofs.lemmas.List.{get_or_default}
use Rattle.rail_model.specs.declared.stair.Use.{Use}
use Rattle.plan_model.specs.declared.cut.CutRow.{CutRow}
use Rattle.plan_model.specs.Cut.{AreOfOtherPlaces}
use Rattle.plan_model.specs.Members.{uses_place, use_at, no_use}
use Rattle.plan_model.proofs.UseFound.{found_at}
use Rattle.headway_table.specs.Walk.{end_in}

abbrev pub at : List Use → ℕ → Use
at uses p = unwrap_or (find (λ u. u.block == p) uses) no_use

-- where the places differ, each use is found by its place
pub at_own : (uses : List Use) → AreOfOtherPlaces uses → (i : ℕ) (d : Use) → i < length uses
    → at uses (get_or uses i d).block ≡ get_or uses i d
at_own uses differ i d l =
    let same = get_or_default uses i d no_use l in
    rw same (ap (λ o. unwrap_or o no_use) (found_at (get_or uses i no_use).block uses i differ l refl))

-- the end that is found at a place is that of the use of the place
ends_is : (entry : ℤ) (uses : List Use) (p : ℕ)
    → option_map (λ (u : Use). u.«end» -ℤ entry) (find (λ u. u.block == p) uses)
    ≡ (if list_any (λ u. u.block == p) uses then Some ((at uses p).«end» -ℤ entry) else None)
ends_is entry [] p = refl
ends_is entry (u ∷ uses) p =
    elim (cases_Bool (u.block == p)) [
      | inl e ↦ rw e refl
      | inr e ↦ rw e (ends_is entry uses p)
    ]

pub end_is : (row : CutRow) (p : ℕ)
    → end_in row p ≡ (if uses_place row p then Some ((use_at row p).«end» -ℤ row.entry) else None)
end_is row p = ends_is row.entry row.uses p
