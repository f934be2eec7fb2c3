-- The rows of a text.
use Rattle.std.specs.Prelude.{◌≡◌, ℕ, ◌+◌, ◌^◌, ◌<◌, ◌≤◌, List, [], ◌∷◌, ◌++◌, length, take, vec_len, vec_capacity, Some}
use Rattle.std.specs.Borrow.{Bor}
use Rattle.std.specs.List.{All}
use Rattle.csv.specs.Reading.{default_config, records, strip_bom, Reached, Ready, source_of}
use Rattle.csv.specs.declared.parser.State.TheVariants as st
use Rattle.csv.specs.declared.reader.Reader.{Reader}
use Rattle.csv.specs.declared.reader.Trim.TheVariants as trim
use Rattle.csv.specs.Records.{Rising, field_count, last_end, text_of, Row as Record}
use Rattle.row_text.specs.Types.{TakenRows}
use Rattle.row_text.specs.SheetRows.{Row}
use Rattle.row_text.specs.Pieces.{pieces}
use Rattle.row_text.specs.Cuts.{CutsIn, EndsAt, fields_cut_at, rows_cut_at}

-- the rows of a text: those of CSV with commas and double quotes, without a byte order mark at the text's start
abbrev pub rows_of : List ℕ → List Row
rows_of text = records default_config (strip_bom text)

-- these rows were taken
pub record HasTaken (taken : TakenRows) (taken_rows : List Row) : Type 0 where
  pub rows : rows_cut_at taken.bytes.items taken.cuts.items taken.ends.items ≡ taken_rows
  pub rise : Rising 0 taken.ends.items (length taken.cuts.items)
  pub all : last_end 0 taken.ends.items ≡ length taken.cuts.items
  pub each : All (CutsIn taken.used) (pieces 0 taken.ends.items taken.cuts.items)
  pub room : taken.used ≤ length taken.bytes.items
  pub small : taken.used < 2 ^ 32

-- there is room for the fields of a row, with one byte more after each, and for their places
pub record HasRoom (taken : TakenRows) (row : Record) : Type 0 where
  pub cuts : vec_len taken.cuts + (field_count row + 1) ≤ vec_capacity taken.cuts
  pub bytes : taken.used + (length (text_of row) + field_count row) ≤ length taken.bytes.items
  pub small : taken.used + (length (text_of row) + field_count row) < 2 ^ 32

-- nothing else was changed than room
pub record HasSame (old new : TakenRows) : Type 0 where
  pub bytes : take old.used new.bytes.items ≡ take old.used old.bytes.items
  pub used : new.used ≡ old.used
  pub cuts : new.cuts.items ≡ old.cuts.items
  pub ends : new.ends.items ≡ old.ends.items

-- the fields of a row were put, with these places
pub record HasPut (old new : TakenRows) (cuts : List ℕ) (row : Row) : Type 0 where
  pub cuts_after : new.cuts.items ≡ old.cuts.items ++ cuts
  pub ends_kept : new.ends.items ≡ old.ends.items
  pub fields : fields_cut_at new.bytes.items cuts ≡ row
  pub some : 0 < length cuts
  pub ends_at : EndsAt new.bytes.items cuts new.used
  pub kept : take old.used new.bytes.items ≡ take old.used old.bytes.items
  pub grown : old.used ≤ new.used
  pub small : new.used < 2 ^ 32

abbrev pub PutsRow : TakenRows → TakenRows → Row → Type 0
PutsRow old new row = (cuts : List ℕ) × HasPut old new cuts row

-- one row more was taken
abbrev pub Takes : TakenRows → TakenRows → Row → Type 0
Takes old new row = (rows : List Row) → HasTaken old rows → HasTaken new (rows ++ row ∷ [])

-- a reader of a text has given these rows, and the bytes of the rest are left
pub record HasRead (reader : Reader (Bor (List ℕ))) (text rest : List ℕ) (rows : List Row) : Type 0 where
  pub trim : reader.trim ≡ trim.None
  pub ready : Ready reader
  pub config : reader.config ≡ default_config
  pub source : source_of (λ s. Some s.now) reader ≡ Some rest
  pub reached : Reached default_config st.StartRecord (strip_bom text) rows reader.state rest

-- the rows that a reader of a text has given so far were taken
abbrev pub IsReading : TakenRows → Reader (Bor (List ℕ)) → List ℕ → Type 0
IsReading taken reader text = (rest : List ℕ) × (rows : List Row) × HasRead reader text rest rows × HasTaken taken rows
