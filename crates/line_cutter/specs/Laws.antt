-- Laws of pieces and cuttings.
use Rattle.std.specs.Prelude.{◌≡◌, ◌≢◌, ℕ, ◌+◌, ◌<◌, ◌≤◌, List, [], length, take, drop, slice_index, All, AllPairs, IsTrue}
use Rattle.rail_model.specs.declared.items.Section.{Section}
use Rattle.rail_model.specs.declared.tables.Tables.{Tables}
use Rattle.plan_model.specs.declared.cut.Cut.{Cut}
use Rattle.plan_model.specs.Cut.{IsSoundCut, is_member, binding_connections, section_cut}
use Rattle.line_cutter.specs.Types.{Stretch, Cutting}
use Rattle.line_cutter.specs.Cutting.{piece, IsOrderly, AreOrderly, IsCutting}

-- a part of an orderly piece is orderly
abbrev pub PartIsOrderly : Type 0
PartIsOrderly =
    (cut : Cut) (a b c d : ℕ) → a ≤ c → d ≤ b → IsOrderly (piece cut a b) → IsOrderly (piece cut c d)

-- no other ends of orderly pieces are fewer
abbrev pub NoFewerPieces : Type 0
NoFewerPieces =
    (cut : Cut) (cutting : Cutting) (ends : List ℕ) → IsCutting cut cutting → AreOrderly cut 0 ends
    → length cutting.ends ≤ length ends

-- the longest orderly piece from a stretch's first block ends before its last
pub record IsLongest (cut : Cut) (stretch : Stretch) : Type 0 where
  pub some : stretch.first < stretch.last
  pub orderly : IsOrderly (piece cut stretch.first stretch.last)
  pub longest : (end : ℕ) → IsOrderly (piece cut stretch.first end) → end ≤ stretch.last

-- each piece but the last is the longest orderly one from its first block
abbrev pub EachIsLongest : Type 0
EachIsLongest = (cut : Cut) (cutting : Cutting) → IsCutting cut cutting → All (IsLongest cut) cutting.stretches

-- one of these ends lies between two neighbouring blocks of a stretch
pub record IsCutAmong (ends : List ℕ) (stretch : Stretch) : Type 0 where
  pub piece : ℕ
  pub there : piece < length ends
  pub after : stretch.first < slice_index ends piece
  pub before : slice_index ends piece ≤ stretch.last

-- whoever cuts the line into orderly pieces cuts each stretch
abbrev pub EachNeedsACut : Type 0
EachNeedsACut =
    (cut : Cut) (cutting : Cutting) (ends : List ℕ) → IsCutting cut cutting → AreOrderly cut 0 ends
    → All (IsCutAmong ends) cutting.stretches

-- the block at this position and the next one lie in a stretch
pub record HasNeighbours (stretch : Stretch) (block : ℕ) : Type 0 where
  pub from : stretch.first ≤ block
  pub to : block + 1 ≤ stretch.last

-- no two neighbouring blocks lie in both of two stretches
abbrev pub AreDisjoint : Stretch → Stretch → Type 0
AreDisjoint s t = (block : ℕ) → HasNeighbours s block → HasNeighbours t block → ⊥

-- stretches are disjoint
abbrev pub StretchesAreDisjoint : Type 0
StretchesAreDisjoint =
    (cut : Cut) (cutting : Cutting) → IsCutting cut cutting
    → AllPairs AreDisjoint cutting.stretches

-- there is one piece more than stretches
abbrev pub OnePieceMore : Type 0
OnePieceMore = (cut : Cut) (cutting : Cutting) → IsCutting cut cutting → length cutting.ends ≡ length cutting.stretches + 1

-- a cut has at most one cutting: one list of ends, and one stretch with one disorder for each piece but the last
abbrev pub CuttingIsUnique : Type 0
CuttingIsUnique =
    (cut : Cut) (cutting other : Cutting) → IsCutting cut cutting → IsCutting cut other → cutting ≡ other

-- another section over a section's blocks from a to before b, with a name and a window of its own: each of its members is
-- a member of the section, too, and no connection binds in it. Without this it may count more trains: one that enters the
-- section before its window may enter these blocks within it
pub record IsOverPiece (tables : Tables) (section : Section) (a b : ℕ) (other : Section) : Type 0 where
  pub blocks : other.blocks ≡ drop a (take b section.blocks)
  pub members : All (λ run. IsTrue (is_member tables other run) → IsTrue (is_member tables section run)) tables.runs
  pub none_binds : binding_connections tables other ≡ []

-- where a piece of a section's cut is orderly, as each piece of a cutting is, the cut of a section over the piece's blocks
-- is orderly. The section has no block twice
abbrev pub OverPieceIsOrderly : Type 0
OverPieceIsOrderly =
    (tables : Tables) (section other : Section) (a b : ℕ) → AllPairs (λ m n. m ≢ n) section.blocks
    → b ≤ length section.blocks → IsOverPiece tables section a b other
    → IsOrderly (piece (section_cut tables section) a b) → IsOrderly (section_cut tables other)

-- each sound cut has a cutting
abbrev pub CuttingIsThere : Type 0
CuttingIsThere = (cut : Cut) → IsSoundCut cut → (cutting : Cutting) × IsCutting cut cutting
