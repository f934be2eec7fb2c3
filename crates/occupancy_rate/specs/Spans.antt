-- From when until when each block is used.
use Rattle.std.specs.Prelude.{◌≡◌, ℕ, ◌<◌, ◌==◌, ℤ, ◌+ℤ◌, ◌-ℤ◌, nat_abs, Bool, false, if◌then◌else◌, List, length, filter, fold, Option, None, Some, slice_index_or}
use Rattle.std.specs.Int.{int_min, int_max}
use Rattle.std.specs.List.{list_any, range_with_len}
use Rattle.rail_model.specs.declared.stair.Use.{Use}
use Rattle.plan_model.specs.declared.cut.CutRow.{CutRow}
use Rattle.plan_model.specs.declared.cut.Cut.{Cut}
use Rattle.plan_model.specs.Members.{block_count, member, members, uses_place}
use Rattle.plan_model.specs.Schedule.{entry_at}
use Rattle.plan_model.specs.Answer.{first_start, last_end}
use Rattle.occupancy_rate.specs.declared.spans.Span.{Span}
pub use Rattle.plan_model.specs.Cut.{IsBounded}

-- a member uses a block
abbrev pub is_used : Cut → ℕ → Bool
is_used cut block = list_any (λ i. uses_place (member cut i) block) (members cut)

-- the span of a block: from the first start to the last end of its uses by members that enter at these moments; none
-- where no member uses it
abbrev pub span_of : Cut → List ℤ → ℕ → Option Span
span_of cut entries block =
    if is_used cut block
    then Some (record { start = first_start cut entries block; «end» = last_end cut entries block })
    else None

-- a list has the spans of all blocks
pub record AreSpans (cut : Cut) (entries : List ℤ) (spans : List (Option Span)) : Type 0 where
  pub count : length spans ≡ block_count cut
  pub each : (block : ℕ) → block < block_count cut → slice_index_or spans block None ≡ span_of cut entries block

-- how long a span is, 0 where there is none
abbrev pub time_of : Option Span → ℕ
time_of None = 0
time_of (Some span) = nat_abs (span.«end» -ℤ span.start)

-- there is a span, and it is so long
abbrev pub lasts : ℕ → Option Span → Bool
lasts time None = false
lasts time (Some span) = time_of (Some span) == time

-- the blocks whose spans are so long
abbrev pub lasting : List (Option Span) → ℕ → List ℕ
lasting spans time = filter (λ b. lasts time (slice_index_or spans b None)) (range_with_len 0 (length spans))

-- ---- use after use

-- a span with one more use
abbrev pub widened : Option Span → ℤ → ℤ → Span
widened None start «end» = record { start = start; «end» = «end» }
widened (Some span) start «end» = record { start = int_min span.start start; «end» = int_max span.«end» «end» }

-- the span of a block with a use of a member that is planned to enter at one moment and enters at another
abbrev pub with_use : ℤ → ℤ → ℕ → Option Span → Use → Option Span
with_use planned entry block span u =
    if u.block == block
    then Some (widened span (u.start -ℤ planned +ℤ entry) (u.«end» -ℤ planned +ℤ entry))
    else span

-- the span of a block with the uses of a row
abbrev pub with_row : CutRow → ℤ → ℕ → Option Span → Option Span
with_row row entry block span = fold (with_use row.entry entry block) span row.uses

-- the span of a block with the uses of the first n members
abbrev pub span_upto : Cut → List ℤ → ℕ → ℕ → Option Span
span_upto cut entries n block =
    fold (λ span i. with_row (member cut i) (entry_at entries i) block span) None (range_with_len 0 n)
