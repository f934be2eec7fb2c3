-- Where fields stand in bytes.
use Rattle.std.specs.Prelude.{◌≡◌, ℕ, ◌+◌, ◌-◌, ◌^◌, ◌<◌, ◌≤◌, List, [], ◌∷◌, ◌++◌, length, map, slice_range, take}
use Rattle.std.specs.List.{All}
use Rattle.csv.specs.Records.{Rising, last_end}
use Rattle.row_text.specs.SheetRows.{Row}
use Rattle.row_text.specs.Pieces.{pieces}

-- the fields that are cut from bytes at these places: each starts at its place and ends a byte
-- before the next one, so that one byte stands between two fields. The last place is past them all
unfoldable pub fields_cut_at : List ℕ → List ℕ → Row
fields_cut_at bytes [] = []
fields_cut_at bytes (start ∷ []) = []
fields_cut_at bytes (start ∷ next ∷ places) = slice_range bytes start (next - 1) ∷ fields_cut_at bytes (next ∷ places)

-- the places rise, and none is past so many
unfoldable pub CutsIn : ℕ → List ℕ → Type 0
CutsIn most [] = Unit {0}
CutsIn most (start ∷ []) = start ≤ most
CutsIn most (start ∷ next ∷ places) = (start < next) × CutsIn most (next ∷ places)

-- the rows whose fields are cut at these places, where the places of each row end before these
abbrev pub rows_cut_at : List ℕ → List ℕ → List ℕ → List Row
rows_cut_at bytes cuts ends = map (fields_cut_at bytes) (pieces 0 ends cuts)

-- the places of each row lie within the bytes; past the last field there may be none
pub record RowsIn (bytes cuts ends : List ℕ) : Type 0 where
  pub rise : Rising 0 ends (length cuts)
  pub each : All (CutsIn (length bytes + 1)) (pieces 0 ends cuts)

-- the places lie within the bytes that are used, which are the first ones: the next field starts
-- past them
pub record EndsAt (bytes cuts : List ℕ) (used : ℕ) : Type 0 where
  pub lie : CutsIn used cuts
  pub last : last_end 0 cuts ≡ used
  pub room : used ≤ length bytes

-- the places with that of the first field, which stands at the start of the bytes
abbrev pub with_first : List ℕ → List ℕ
with_first [] = 0 ∷ []
with_first (start ∷ places) = start ∷ places

-- a field was put after the bytes that were used, and the place past it after the others
pub record PutsField (old new cuts_before cuts_after : List ℕ) (used end : ℕ) (field : List ℕ) : Type 0 where
  pub cuts : cuts_after ≡ cuts_before ++ end ∷ []
  pub bytes : take (used + length field) new ≡ take used old ++ field
  pub past : end ≡ used + length field + 1
  pub room : end ≤ length new
  pub small : end < 2 ^ 32
