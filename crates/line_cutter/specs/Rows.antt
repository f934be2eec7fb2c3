-- The rows of a cutting.
use Rattle.std.specs.Prelude.{ℕ, ◌+◌, ◌-◌, ◌<◌, ◌≤◌, List, [], ◌∷◌, ◌++◌, length, map, slice_index, slice_index_or, codes, decimal}
use Rattle.std.specs.List.{flat_map, range_with_len}
use Rattle.rail_model.specs.declared.items.Section.{Section}
use Rattle.plan_model.specs.declared.cut.Cut.{Cut}
use Rattle.plan_model.specs.declared.answer.Disorder.{Disorder}
use Rattle.plan_model.specs.declared.answer.Disorder.TheVariants as disorder
use Rattle.row_text.specs.SheetRows.{Row}
use Rattle.answer_parts.specs.Rows.{opposite_row, ring_rows}
use Rattle.line_cutter.specs.Types.{Stretch, Cutting}

-- the name of a section's block, by its position
abbrev pub block_at : Section → ℕ → List ℕ
block_at section k = slice_index_or section.blocks k []

-- where the piece at place k begins: the first with block 0, each other where the one before ends
abbrev pub first_block : List ℕ → ℕ → ℕ
first_block ends k = slice_index (0 ∷ ends) k

-- piece,SECTION,NUMBER,FIRSTBLOCK,LASTBLOCK
abbrev pub piece_row : Section → List ℕ → ℕ → Row
piece_row section ends k =
    codes "piece" ∷ section.name ∷ decimal (k + 1)
    ∷ block_at section (first_block ends k) ∷ block_at section (slice_index ends k - 1) ∷ []

abbrev pub piece_rows : Section → List ℕ → List Row
piece_rows section ends = map (piece_row section ends) (range_with_len 0 (length ends))

-- the rows of disorder, as of a section that is not compressed
abbrev pub disorder_rows : List ℕ → Disorder → List Row
disorder_rows section (disorder.Opposite first second block1 block2) =
    opposite_row section first second block1 block2 ∷ []
disorder_rows section (disorder.Ring links) = ring_rows section links

-- stretch,FIRSTBLOCK,LASTBLOCK
abbrev pub stretch_row : Section → Stretch → Row
stretch_row section s = codes "stretch" ∷ block_at section s.first ∷ block_at section s.last ∷ []

abbrev pub stretch_rows : Section → Stretch → List Row
stretch_rows section s = stretch_row section s ∷ disorder_rows section.name s.disorder

-- cut,SECTION,PIECES
abbrev pub cut_row : List ℕ → ℕ → Row
cut_row section pieces = codes "cut" ∷ section ∷ decimal pieces ∷ []

-- the pieces, the stretches with their disorder, and the number of pieces
abbrev pub cutting_rows : Cut → Cutting → List Row
cutting_rows cut cutting =
    piece_rows cut.section cutting.ends ++ flat_map (stretch_rows cut.section) cutting.stretches
    ++ cut_row cut.section.name (length cutting.ends) ∷ []

-- ---- what is asked to write them

-- each piece has some blocks of the section
pub record IsPieceWithin (section : Section) (ends : List ℕ) (k : ℕ) : Type 0 where
  pub some : first_block ends k < slice_index ends k
  pub within : slice_index ends k ≤ length section.blocks

abbrev pub ArePiecesWithin : Section → List ℕ → Type 0
ArePiecesWithin section ends = (k : ℕ) → k < length ends → IsPieceWithin section ends k

-- a stretch begins and ends with blocks of the section
pub record IsStretchWithin (section : Section) (s : Stretch) : Type 0 where
  pub first : s.first < length section.blocks
  pub last : s.last < length section.blocks
