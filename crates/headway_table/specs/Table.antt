-- The headways of all pairs of a cut's members.
use Rattle.std.specs.Prelude.{◌≡◌, ℕ, ◌==◌, ℤ, if◌then◌else◌, List, [], length, map, All, Option, None, slice_index_or}
use Rattle.plan_model.specs.declared.cut.Cut.{Cut}
use Rattle.plan_model.specs.Members.{member, members, headway}

-- the headway from member i to member j, and none from a member to itself
abbrev pub between : Cut → ℕ → ℕ → Option ℤ
between cut i j = if i == j then None else headway (member cut i) (member cut j)

-- the headways from member i to each
abbrev pub row_of : Cut → ℕ → List (Option ℤ)
row_of cut i = map (between cut i) (members cut)

-- a table has as many columns as rows
abbrev pub IsSquare : List (List (Option ℤ)) → Type 0
IsSquare rows = All (λ row. length row ≡ length rows) rows

-- the field of a table in row i and column j
abbrev pub field : List (List (Option ℤ)) → ℕ → ℕ → Option ℤ
field rows i j = slice_index_or (slice_index_or rows i []) j None

-- the table of a cut: the headways from each member to each
abbrev pub table_of : Cut → List (List (Option ℤ))
table_of cut = map (row_of cut) (members cut)
