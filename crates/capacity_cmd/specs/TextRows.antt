-- The rows of a text that is read piece by piece.
use Rattle.std.specs.Prelude.{◌≡◌, ◌⊎◌, ℕ, ◌≤◌, ◌<◌, List, [], ◌++◌, length, drop, Result, Ok, Err}
use Rattle.row_text.specs.SheetRows.{Row}
use Rattle.row_text.specs.Rows.{rows_of}
use Rattle.row_text.specs.TextPieces.{IsPlain}
use Rattle.capacity_cmd.specs.Types.{Refusal, InputSoFar, Stopped, TextRows}
use Rattle.capacity_cmd.specs.Input.{content_in}
use Rattle.capacity_cmd.specs.Stopped.{Gives}
use Rattle.capacity_cmd.specs.InputSoFar.{HasTaken}

-- so many rows of a text stand before a place, from which on the text is plain
pub record AreLeft (text : List ℕ) (from before : ℕ) : Type 0 where
  pub within : from ≤ length text
  pub plain : IsPlain (drop from text)
  pub rows : drop before (rows_of text) ≡ rows_of (drop from text)
  pub few : before ≤ length (rows_of text)

-- the rows of a text begin with these, which end at a place, from which on it is plain; there is one, or the text has none
pub record BeginsWith (text : List ℕ) (first : List Row) (end : ℕ) : Type 0 where
  pub rows : rows_of text ≡ first ++ rows_of (drop end text)
  pub within : end ≤ length text
  pub plain : IsPlain (drop end text)
  pub some : (0 < length first) ⊎ (rows_of text ≡ [])

-- the rows of a piece come right after so many of its text, and then others
pub record AreRowsOf (piece : TextRows) : Type 0 where
  pub rest : List Row
  pub rows : drop piece.before (rows_of piece.text.now) ≡ piece.rows.now ++ rest
  pub few : piece.before ≤ length (rows_of piece.text.now)

-- how taking a piece ends: so many rows of the text are taken then, or the first fault is how the whole ends
abbrev pub TakesPiece : {U : Type 0} → ℕ → ℕ → List Row → ℕ → InputSoFar → Result U (Stopped Refusal) → Type 0
TakesPiece planners version all taken made (Ok done) = HasTaken planners version all made taken
TakesPiece planners version all taken made (Err why) = Gives (content_in planners (Ok version) all) (Err why)
