-- Between which moments the uses of stairways start.
use Rattle.std.specs.Prelude.{◌≡◌, ◌⊎◌, ◌<◌, ℕ, ℤ, pos, ◌≤ℤ◌, ◌<ℤ◌, All, List, length, map, slice_index_or}
use Rattle.rail_model.specs.declared.items.Section.{Section}
use Rattle.rail_model.specs.declared.stair.Use.{Use}
use Rattle.rail_model.specs.declared.stair.Stair.{Stair}
use Rattle.rail_model.specs.Conflict.{stair_at}
use Rattle.plan_model.specs.Cut.{least}
use Rattle.plan_model.specs.Members.{no_use}
use Rattle.section_cut.specs.declared.all_stairways.Starts.{Starts}

-- these uses start between these moments
abbrev pub StartsBetween : Starts → List Use → Type 0
StartsBetween starts uses = All (λ u. (starts.first ≤ℤ u.start) × (u.start ≤ℤ starts.last)) uses

-- and those of each stairway between its own
pub record AreStartsOf (stairs : List Stair) (starts : List Starts) : Type 0 where
  pub count : length starts ≡ length stairs
  pub each : (n : ℕ) (d : Starts) → n < length stairs
      → StartsBetween (slice_index_or starts n d) (stair_at stairs n).uses

-- these uses start before a section's window, or after it
abbrev pub StartsOutside : Section → List Use → Type 0
StartsOutside section uses =
    All (λ u. u.start <ℤ pos section.from_s) uses ⊎ All (λ u. pos section.to_s ≤ℤ u.start) uses

-- the first of some uses is of this block, and starts before a section's window
pub record StartsEarly (section : Section) (uses : List Use) (block : ℕ) : Type 0 where
  pub some : 0 < length uses
  pub first : (slice_index_or uses 0 no_use).block ≡ block
  pub before : (slice_index_or uses 0 no_use).start <ℤ pos section.from_s

-- and that block is one of the section's, by the positions of blocks
pub record EntersEarly (section : Section) (position : ℕ → ℕ) (uses : List Use) : Type 0 where
  pub block : ℕ
  pub early : StartsEarly section uses block
  pub inside : position block < length section.blocks

-- this is the least start of a stair
abbrev pub IsEntryOf : ℤ → Stair → Type 0
IsEntryOf entry stair = entry ≡ least (map (λ u. u.start) stair.uses)

-- a stair starts between these moments, and this is its least start
pub record IsTimed (starts : Starts) (least_start : ℤ) (stair : Stair) : Type 0 where
  pub between : StartsBetween starts stair.uses
  pub entry : IsEntryOf least_start stair
