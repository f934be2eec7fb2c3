-- Pieces of a text that can be read one after the other.
use Rattle.std.specs.Prelude.{◌≢◌, ℕ, List, [], ◌∷◌, take}
use Rattle.row_text.specs.PlainRows.{HasNoQuote}

-- the text doesn't start as a byte order mark does
abbrev pub HasNoMark : List ℕ → Type 0
HasNoMark text = take 1 text ≢ 0xEF ∷ []

-- the text has no double quote, and doesn't start as a byte order mark does
pub record IsPlain (text : List ℕ) : Type 0 where
  pub no_quote : HasNoQuote text
  pub no_mark : HasNoMark text
