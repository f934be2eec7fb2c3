-- Which places of stairways are of a section's blocks, by the lists of blocks that the stairways are over.
use Rattle.std.specs.Prelude.{◌≡◌, ℕ, ◌-◌, ◌<◌, ◌≤◌, min, All, List, [], ◌∷◌, ◌++◌, length, map, take, drop, slice_index, slice_index_or, Option, Some, None, IfSome}
use Rattle.rail_model.specs.declared.stair.Use.{Use}
use Rattle.rail_model.specs.declared.stair.Stair.{Stair}
use Rattle.section_cut.specs.declared.all_stairways.Starts.{Starts}
use Rattle.section_cut.specs.declared.spans.BlockLists.{BlockLists}
use Rattle.section_cut.specs.declared.spans.BlockRange.{BlockRange}
use Rattle.section_cut.specs.Positions.{uses_in}
use Rattle.section_cut.specs.Starts.{AreStartsOf}

-- the blocks of uses, in their order
abbrev pub blocks_of : List Use → List ℕ
blocks_of uses = map (λ u. u.block) uses

-- the list of a number is that of the blocks of these uses
pub record IsOver (lists : List (List ℕ)) (uses : List Use) (number : ℕ) : Type 0 where
  pub there : number < length lists
  pub same : slice_index_or lists number [] ≡ blocks_of uses

-- all lists keep their numbers
abbrev pub KeepsLists : List (List ℕ) → List (List ℕ) → Type 0
KeepsLists old new = (uses : List Use) (number : ℕ) → IsOver old uses number → IsOver new uses number

-- each of these stairways is over the list of its number, if it has one
pub record AreOver (all : List (List Use)) (over : BlockLists) : Type 0 where
  pub count : length over.numbers.items ≡ length all
  pub each : (n : ℕ) → n < length all → IfSome (slice_index_or over.numbers.items n None) (IsOver over.lists.items (slice_index_or all n []))

-- these have a stairway of some uses more
abbrev pub IsWithNext : BlockLists → List Use → BlockLists → Type 0
IsWithNext old uses new = (all : List (List Use)) → AreOver all old → AreOver (all ++ uses ∷ []) new

-- the places in a list of blocks at which one is in a section of so many blocks, by the table of positions, are all in a span
abbrev pub IsSpan : List ℕ → ℕ → List ℕ → BlockRange → Type 0
IsSpan positions blocks list span =
    (k : ℕ) → k < length list → slice_index positions (slice_index list k) < blocks → (span.from ≤ k) × (k < span.to)

-- each list has its span
abbrev pub AreListSpans : List ℕ → ℕ → List (List ℕ) → List BlockRange → Type 0
AreListSpans positions blocks lists spans =
    (k : ℕ) (d : BlockRange) → k < length lists → IsSpan positions blocks (slice_index_or lists k []) (slice_index_or spans k d)

-- each stairway has a span of its blocks, or none
abbrev pub AreSpans : List ℕ → ℕ → List (List Use) → List (Option BlockRange) → Type 0
AreSpans positions blocks all spans =
    (n : ℕ) → n < length all → IfSome (slice_index_or spans n None) (IsSpan positions blocks (blocks_of (slice_index_or all n [])))

-- these are the spans of any stairways that are over the lists
abbrev pub TellSpans : List ℕ → ℕ → BlockLists → List (Option BlockRange) → Type 0
TellSpans positions blocks over spans = (all : List (List Use)) → AreOver all over → AreSpans positions blocks all spans

-- the stairways with the moments of each, and the lists of blocks that they are over
pub record AreLookedAt (stairs : List Stair) (starts : List Starts) (over : BlockLists) : Type 0 where
  pub between : AreStartsOf stairs starts
  pub listed : AreOver (map (λ s. s.uses) stairs) over

-- the uses at the places of a span, or all where there is none
abbrev pub part_of : Option BlockRange → List Use → List Use
part_of None uses = uses
part_of (Some span) uses =
    let to = min span.to (length uses) in take (to - min span.from to) (drop (min span.from to) uses)

-- these uses of a stair are looked at: all that are in a section are among them
pub record IsLookedAt (positions : List ℕ) (blocks : ℕ) (uses : List Use) (stair : Stair) : Type 0 where
  pub whole : All (λ u. u.block < length positions) stair.uses
  pub there : All (λ u. u.block < length positions) uses
  pub same : uses_in positions blocks uses ≡ uses_in positions blocks stair.uses
