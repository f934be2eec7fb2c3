-- The paths of a line's runs.
use Rattle.std.specs.Prelude.{ℕ, List, [], map, slice_index_or}
use Rattle.rail_model.specs.declared.path.Path.{Path}
use Rattle.rail_model.specs.declared.tables.Tables.{Tables}
use Rattle.rail_model.specs.Tables.{path_in}

-- the path of each run, in the order of the runs' names
abbrev pub paths_of : Tables → List Path
paths_of tables = map (path_in tables) tables.runs

-- a placeholder where a run hasn't a path
abbrev pub no_path : Path
no_path = record { run = []; length_m = 0; tail_s = 0; start_s = 0; hops = [] }

-- the path at a place
abbrev pub path_at : List Path → ℕ → Path
path_at paths n = slice_index_or paths n no_path
