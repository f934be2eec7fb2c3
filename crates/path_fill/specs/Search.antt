-- What copies ask of the blocks, and the numbers that tell the filled occupancies.
use Rattle.std.specs.Prelude.{◌≡◌, ◌⊎◌, ℕ, zero, suc, ◌+◌, ◌*◌, ◌^◌, ◌<◌, ◌≤◌, max, ℤ, pos, ◌-ℤ◌, ◌≤ℤ◌, Bool, true, false, if◌then◌else◌, List, slice_index_or, Option, Some, None, IfSome, ⊤}
use Rattle.std.specs.Int.{int_max}
use Rattle.rail_model.specs.declared.items.Section.{Section}
use Rattle.plan_model.specs.declared.cut.Cut.{Cut}
use Rattle.plan_model.specs.Members.{member, use_at}
use Rattle.plan_model.specs.Schedule.{end_at}
use Rattle.plan_model.specs.Answer.{first_start}
use Rattle.occupancy_rate.specs.declared.spans.Span.{Span}
use Rattle.train_placing.specs.declared.last.Last.{Last}
use Rattle.path_fill.specs.Types.{Fill}
use Rattle.path_fill.specs.declared.found.Fill.TheVariants as fill
use Rattle.path_fill.specs.Filling.{has_room}

-- a number where a place is used
abbrev pub where_used : Bool → ℤ → Option ℤ
where_used used x = if used then Some x else None

-- if there is a number, it is no greater
abbrev pub IsAtMost : ℕ → Option ℤ → Type 0
IsAtMost n None = ⊤
IsAtMost n (Some x) = x ≤ℤ pos n

-- the greater of the best so far and of one more, if there is one more
abbrev pub greater : ℤ → Option ℤ → ℤ
greater best None = best
greater best (Some x) = int_max best x

-- the greatest of a number and of those at the first places that pass a test
pub record IsGreatest (test : ℕ → Bool) (f : ℕ → ℤ) (n : ℕ) (from best : ℤ) : Type 0 where
  pub above : from ≤ℤ best
  pub each : (k : ℕ) → k < n → test k ≡ true → f k ≤ℤ best
  pub reached : (best ≡ from) ⊎ ((k : ℕ) × (k < n) × (test k ≡ true) × (best ≡ f k))

-- how long member r keeps a block
abbrev pub time_at : Cut → ℕ → ℕ → ℤ
time_at cut r block = (use_at (member cut r) block).«end» -ℤ (use_at (member cut r) block).start

-- until when a place is used
abbrev pub until : Option Last → ℤ
until None = pos 0
until (Some last) = last.until

-- when a copy of member r can enter after the last use of a block
abbrev pub asked : Cut → ℕ → List (Option Last) → ℕ → ℤ
asked cut r last block =
    until (slice_index_or last block None) -ℤ ((use_at (member cut r) block).start -ℤ (member cut r).entry)

-- how long a block is kept up to the end of a copy of member r
abbrev pub kept_to : Cut → ℕ → List ℤ → ℤ → ℕ → ℤ
kept_to cut r entries entry block = end_at (member cut r) entry block -ℤ first_start cut entries block

-- a moment at which a copy ends, or a block's first use starts: from -2^51 to 2^51
pub record IsNearEnd (t : ℤ) : Type 0 where
  pub after : (pos 0 -ℤ pos (2 ^ 51)) ≤ℤ t
  pub before : t ≤ℤ pos (2 ^ 51)

-- when a block's span starts
abbrev pub start_of : Option Span → ℤ
start_of None = pos 0
start_of (Some span) = span.start

-- a span that starts at such a moment
abbrev pub StartsNear : Option Span → Type 0
StartsNear span = IfSome span (λ s. IsNearEnd s.start)

-- how long a block is kept up to the end of a copy of member r, from the spans of the blocks
abbrev pub kept_by : Cut → ℕ → List (Option Span) → ℤ → ℕ → ℤ
kept_by cut r spans entry block = end_at (member cut r) entry block -ℤ start_of (slice_index_or spans block None)

-- the occupancy time with so many copies, by that of the members alone, by how long a block is kept up to the first
-- copy's end, and by the headway of the copies
abbrev pub filled_time : ℕ → ℕ → ℕ → ℕ → ℕ
filled_time alone first headway zero = alone
filled_time alone first headway (suc more) = max alone (first + more * headway)

-- what is found by these
pub record AreMostBy (section : Section) (alone first headway copies time more : ℕ) : Type 0 where
  pub occupancy : time ≡ filled_time alone first headway copies
  pub next : more ≡ filled_time alone first headway (copies + 1)
  pub fit : (count : ℕ) → count ≤ copies → has_room section (filled_time alone first headway count) ≡ true
  pub over : (count : ℕ) → copies < count → has_room section (filled_time alone first headway count) ≡ false

abbrev pub IsFillBy : Section → ℕ → ℕ → ℕ → Fill → Type 0
IsFillBy section alone first headway (fill.Over time) = (time ≡ alone) × (has_room section alone ≡ false)
IsFillBy section alone first headway (fill.Fits copies time next) =
    AreMostBy section alone first headway copies time next
