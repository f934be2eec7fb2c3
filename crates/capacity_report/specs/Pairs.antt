-- The rows of `headways` as the program makes them: what stands at the head, the second train's name, and the time.
use Rattle.std.specs.Prelude.{ℕ, ℤ, codes, List, [], ◌∷◌, ◌++◌, map, Option, None, Some}
use Rattle.std.specs.Fmt.{signed_decimal}
use Rattle.plan_model.specs.declared.cut.CutRow.{CutRow}
use Rattle.plan_model.specs.declared.cut.Cut.{Cut}
use Rattle.plan_model.specs.Members.{member}
use Rattle.headway_table.specs.Table.{between}
use Rattle.row_text.specs.SheetRows.{Row}

-- the name of a member, as the field of a row, and those of all in the order of the rows
abbrev pub name_of : CutRow → Row
name_of member = member.name ∷ []

abbrev pub names_of : Cut → List Row
names_of cut = map name_of cut.rows

-- the row of a headway
abbrev pub row_to : Row → Row → ℤ → Row
row_to head second seconds = head ++ second ++ signed_decimal seconds ∷ []

-- the row of a headway, if there is one
abbrev pub rows_to : Row → Row → Option ℤ → List Row
rows_to head second None = []
rows_to head second (Some seconds) = row_to head second seconds ∷ []

-- what stands at the head of each row of a member's headways
abbrev pub head_of : Cut → ℕ → Row
head_of cut i = codes "headway" ∷ (member cut i).name ∷ []

-- the row of the headway from one member to another, if there is one
abbrev pub pair_rows : Cut → ℕ → ℕ → List Row
pair_rows cut i j = rows_to (head_of cut i) (name_of (member cut j)) (between cut i j)
