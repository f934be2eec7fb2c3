-- The pieces of a journal's text.
use Rattle.std.specs.Prelude.{◌≡◌, ℕ, ◌<◌, List, length, slice_index_or, IfOk}
use Rattle.std.specs.List.{flat_map}
use Rattle.row_text.specs.SheetRows.{text_of_rows}
use Rattle.capacity_report.specs.declared.journal_pieces.Piece.{Piece}
use Rattle.capacity_report.specs.Rows.{rows_of_journal}

-- the texts of a piece, if memory sufficed for them, are that of the rows of its entries
abbrev pub IsFilled : Piece → Piece → Type 0
IsFilled old new = IfOk new.texts (λ texts. flat_map (λ t. t.items) texts.items ≡ text_of_rows (rows_of_journal old.entries.items))

-- so it is of each of these
pub record AreFilled (old new : List Piece) : Type 0 where
  pub count : length new ≡ length old
  pub each : (i : ℕ) (d : Piece) → i < length old → IsFilled (slice_index_or old i d) (slice_index_or new i d)
