-- A journal's text that grows by the rows of one entry after the other.
use Rattle.std.specs.Prelude.{◌≡◌, ℕ, ◌<◌, List, [], ◌++◌, length, map, slice_index_or, All}
use Rattle.std.specs.List.{flat_map}
use Rattle.std.specs.Global.{Vec}
use Rattle.row_text.specs.SheetRows.{Row, text_of_rows}
use Rattle.capacity_report.specs.declared.last_trains.LastTrains.{LastTrains}
use Rattle.capacity_report.specs.declared.text_so_far.TextSoFar.{TextSoFar}
use Rattle.capacity_report.specs.LastTrains.{EndsWithTrains}

-- the text at a place
abbrev pub text_at : List (Vec ℕ) → ℕ → List ℕ
text_at texts i = slice_index_or (map (λ t. t.items) texts) i []

-- one of these texts ends with the rows of the trains
pub record IsThere (texts : List (Vec ℕ)) (trains : LastTrains) : Type 0 where
  pub text : trains.text < length texts
  pub ends : EndsWithTrains (text_at texts trains.text) trains.plan trains.from trains.bytes.items

-- so it is for all trains that are kept
abbrev pub AreThere : TextSoFar → Type 0
AreThere t = All (IsThere t.texts.items) t.last.items

-- the texts that are finished, one after the other, and then that of the rows after them
abbrev pub so_far : TextSoFar → List ℕ
so_far t = flat_map (λ text. text.items) t.texts.items ++ text_of_rows t.sheet.rows

-- a text has grown by the text of these rows
pub record Grows (before after : TextSoFar) (added : List Row) : Type 0 where
  pub text : so_far after ≡ so_far before ++ text_of_rows added
  pub there : AreThere after
