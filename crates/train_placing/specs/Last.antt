-- The last use of each place, use after use, and when a train can enter after it.
use Rattle.std.specs.Prelude.{ℕ, ◌^◌, ◌==◌, ℤ, pos, ◌+ℤ◌, ◌-ℤ◌, ◌≤ℤ◌, if◌then◌else◌, List, fold, Option, None, Some, slice_index_or, IfSome}
use Rattle.std.specs.Int.{int_max}
use Rattle.rail_model.specs.declared.stair.Use.{Use}
use Rattle.plan_model.specs.declared.cut.CutRow.{CutRow}
use Rattle.train_placing.specs.declared.last.Last.{Last}

-- a moment that no timetable of the limits comes to: from -2^49 to 2^49
pub record IsNear (t : ℤ) : Type 0 where
  pub after : (pos 0 -ℤ pos (2 ^ 49)) ≤ℤ t
  pub before : t ≤ℤ pos (2 ^ 49)

-- a last use that ends at such a moment
abbrev pub IsNearLast : Option Last → Type 0
IsNearLast last = IfSome last (λ l. IsNear l.until)

-- the later of a moment and of the one at which a train, planned to enter at a moment, can enter after the last use of
-- the place of one of its uses
abbrev pub after : ℤ → Option Last → ℤ → Use → ℤ
after planned None entry u = entry
after planned (Some last) entry u = int_max entry (last.until -ℤ (u.start -ℤ planned))

-- the later of a moment and of the one at which a train can enter after the last use of the place of one of its uses,
-- by the last uses of all places
abbrev pub after_use : ℤ → List (Option Last) → ℤ → Use → ℤ
after_use planned last entry u = after planned (slice_index_or last u.block None) entry u

-- when a train can enter after the last uses of all its places, not before a moment
abbrev pub earliest : ℤ → CutRow → List (Option Last) → ℤ
earliest from row last = fold (after_use row.entry last) from row.uses

-- the last use of a place after a use by a train that enters at a moment
abbrev pub with_use : ℤ → ℕ → ℤ → ℕ → Option Last → Use → Option Last
with_use planned train entry place last u =
    if u.block == place then Some (record { until = u.«end» -ℤ planned +ℤ entry; train = train }) else last

-- after all its uses
abbrev pub with_row : CutRow → ℕ → ℤ → ℕ → Option Last → Option Last
with_row row train entry place last = fold (with_use row.entry train entry place) last row.uses
