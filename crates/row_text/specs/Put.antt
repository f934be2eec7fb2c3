-- What stands in the text of a row for its fields.
use Rattle.std.specs.Prelude.{ℕ, Bool, true, if◌then◌else◌, List, [], ◌∷◌, ◌++◌}
use Rattle.csv.specs.Writing.{default_writer, field_text}
use Rattle.row_text.specs.SheetRows.{Row}

-- a comma, unless the field after it is the first of its row
abbrev pub separator : Bool → List ℕ
separator has_field = if has_field then 44 ∷ [] else []

-- the text of more fields of a row that has a field or has none
abbrev pub more_text : Bool → Row → List ℕ
more_text has_field [] = []
more_text has_field (first ∷ fields) =
    separator has_field ++ (field_text default_writer first ++ more_text true fields)
