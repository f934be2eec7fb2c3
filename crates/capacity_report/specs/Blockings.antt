-- The rows of `stairs` as the program makes them: what stands at the head, the block's name in a list, and the times.
use Rattle.std.specs.Prelude.{ℕ, ◌<◌, List, [], ◌∷◌, ◌++◌, length, map, codes, All, slice_index_or}
use Rattle.std.specs.List.{range_with_len}
use Rattle.std.specs.Fmt.{signed_decimal}
use Rattle.blocking_time.specs.declared.walk.Blocking.{Blocking}
use Rattle.blocking_time.specs.Blocking.{blocking_of}
use Rattle.rail_model.specs.declared.path.Path.{Path}
use Rattle.rail_model.specs.declared.tables.Tables.{Tables}
use Rattle.rail_model.specs.Blocking.{hop_count}
use Rattle.line_tables.specs.Paths.{path_at}
use Rattle.row_text.specs.SheetRows.{Row}

-- the row of a blocking: its head, its block, its use and its six parts
abbrev pub blocking_row : Row → Row → Blocking → Row
blocking_row head block b =
    head ++ block ++ map signed_decimal (b.used.start ∷ b.used.«end» ∷ []) ++ map signed_decimal b.parts

-- the row of a blocking whose block's name stands in a list of names, by the blocks' numbers
abbrev pub named_row : List Row → Row → Blocking → Row
named_row names head b = blocking_row head (slice_index_or names b.used.block ([] ∷ [])) b

-- the rows of a path
abbrev pub rows_by_names : List Row → Path → List Row
rows_by_names names path =
    map (named_row names (codes "use" ∷ path.run ∷ [])) (map (blocking_of path) (range_with_len 1 (hop_count path)))

-- the names of the blocks, by number
abbrev pub names_of : Tables → List Row
names_of tables = map (λ b. b.name ∷ []) tables.blocks

-- the rows of the path of a number
abbrev pub rows_at : List Row → List Path → ℕ → List Row
rows_at names paths n = rows_by_names names (path_at paths n)

-- each block of the paths has a name
abbrev pub AreNamed : List Row → List Path → Type 0
AreNamed names paths = All (λ path. All (λ h. h.block < length names) path.hops) paths
