-- The rows of a text that has no double quote.
use Rattle.std.specs.Prelude.{◌≡◌, ◌≢◌, ℕ, ◌==◌, ◌&&◌, ◌||◌, ◌+◌, ◌≤◌, ◌<◌, Bool, List, [], ◌∷◌, ◌++◌, length, take, drop, get_or, slice_range, if◌then◌else◌}
use Rattle.std.specs.Int.{bit_at}
use Rattle.std.specs.List.{All}
use Rattle.csv.specs.Records.{Rising, last_end}
use Rattle.row_text.specs.Types.{CutFields}
use Rattle.row_text.specs.Cuts.{CutsIn, fields_cut_at, rows_cut_at}
use Rattle.row_text.specs.Pieces.{pieces}
use Rattle.row_text.specs.SheetRows.{Row}

-- whether a byte ends a line: a carriage return or a line feed
abbrev pub ends_line : ℕ → Bool
ends_line byte = (byte == 13) || (byte == 10)

-- no byte is a double quote
abbrev pub HasNoQuote : List ℕ → Type 0
HasNoQuote text = All (λ byte. byte ≢ 34) text

-- nothing stands in a line: no field, and no byte of another
abbrev pub is_blank : Row → List ℕ → Bool
is_blank fields field = (length fields == 0) && (length field == 0)

-- the row of a line, and the rows after it: a line in which nothing stands gives no row
abbrev pub with_line : Row → List ℕ → List Row → List Row
with_line fields field rows = if is_blank fields field then rows else (fields ++ field ∷ []) ∷ rows

-- the rows of a text that is cut at its commas and at the ends of its lines, where these fields and
-- these bytes of one more stand before it in its first line
unfoldable pub cut_rows : Row → List ℕ → List ℕ → List Row
cut_rows fields field [] = with_line fields field []
cut_rows fields field (byte ∷ text) =
    if byte == 44 then cut_rows (fields ++ field ∷ []) [] text
    else if ends_line byte then with_line fields field (cut_rows [] [] text)
    else cut_rows fields (field ++ byte ∷ []) text

-- what was cut from a text so far: where its fields are cut, how many places there are up to the end
-- of each row, where the field at hand starts, and how many places there are before the line at hand
pub record CutSoFar : Type 0 where
  pub cuts : List ℕ
  pub ends : List ℕ
  pub start : ℕ
  pub first : ℕ

abbrev pub so_far : CutFields → CutSoFar
so_far cut = record { cuts = cut.cuts.items; ends = cut.ends.items; start = cut.start; first = cut.first }

-- so many fields more were cut in the line at hand, and where the next starts
abbrev pub with_fields : CutSoFar → List ℕ → ℕ → CutSoFar
with_fields cut starts start = record { cuts = cut.cuts ++ starts; ends = cut.ends; start = start; first = cut.first }

-- the places of the line at hand: those of its fields that were cut, and where the next starts
abbrev pub line_cuts : CutSoFar → List ℕ
line_cuts cut = drop cut.first cut.cuts ++ cut.start ∷ []

-- the fields of the line at hand that were cut so far
abbrev pub line_fields : List ℕ → CutSoFar → Row
line_fields text cut = fields_cut_at text (line_cuts cut)

-- the rows that were cut so far
abbrev pub rows_cut : List ℕ → CutSoFar → List Row
rows_cut text cut = rows_cut_at text cut.cuts cut.ends

-- the places that were cut from a text lie within it, and the rows' ends within them
pub record Fits (text : List ℕ) (cut : CutSoFar) : Type 0 where
  pub each : All (CutsIn (length text + 1)) (pieces 0 cut.ends cut.cuts)
  pub line : CutsIn (length text + 1) (line_cuts cut)
  pub rise : Rising 0 cut.ends (length cut.cuts)
  pub first : last_end 0 cut.ends ≡ cut.first

-- the bytes of a text before a place were cut
pub record HasCut (text : List ℕ) (cut : CutSoFar) (i : ℕ) : Type 0 where
  pub rows : cut_rows [] [] text ≡ rows_cut text cut ++ cut_rows (line_fields text cut) (slice_range text cut.start i) (drop i text)
  pub no_quote : HasNoQuote (take i text)
  pub fits : Fits text cut
  pub start : cut.start ≤ i

-- all bytes of a text were cut
pub record HasCutAll (text : List ℕ) (cut : CutSoFar) : Type 0 where
  pub rows : cut_rows [] [] text ≡ rows_cut text cut
  pub no_quote : HasNoQuote text
  pub fits : Fits text cut
  pub all : cut.first ≡ length cut.cuts

-- a field ended at a place
pub record EndsField (old new : CutSoFar) (i : ℕ) : Type 0 where
  pub cuts : new.cuts ≡ old.cuts ++ old.start ∷ []
  pub ends : new.ends ≡ old.ends
  pub start : new.start ≡ i + 1
  pub first : new.first ≡ old.first

-- a line ended at a place: its row is cut, and nothing stands in the next one
pub record LineEnded (text : List ℕ) (old new : CutSoFar) (i : ℕ) : Type 0 where
  pub rows : (more : List Row) → rows_cut text new ++ more ≡ rows_cut text old ++ with_line (line_fields text old) (slice_range text old.start i) more
  pub none : line_fields text new ≡ []
  pub fits : Fits text new
  pub start : new.start ≡ i + 1

abbrev pub EndsLine : CutSoFar → CutSoFar → ℕ → Type 0
EndsLine old new i = (text : List ℕ) → i ≤ length text → old.start ≤ i → Fits text old → LineEnded text old new i

-- one byte more was taken
abbrev pub TakesByte : CutSoFar → CutSoFar → ℕ → ℕ → Type 0
TakesByte old new i byte = (text : List ℕ) → i < length text → get_or text i 0 ≡ byte → HasCut text old i → HasCut text new (i + 1)

-- of the 64 bytes of a text from a place on, byte k is above the comma where bit k of a number is 0
abbrev pub OthersAreAboveComma : List ℕ → ℕ → ℕ → Type 0
OthersAreAboveComma text at bits = (k : ℕ) → k < 64 → bit_at bits k ≡ 0 → 44 < get_or text (at + k) 0

-- where bit k of a number is 1, byte k of the 64 is a comma
abbrev pub OnesAreCommas : List ℕ → ℕ → ℕ → Type 0
OnesAreCommas text at bits = (k : ℕ) → k < 64 → bit_at bits k ≡ 1 → get_or text (at + k) 0 ≡ 44
