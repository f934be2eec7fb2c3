-- The list of the paths of a line's runs.
use Rattle.std.proofs.Common.{◌≡◌, ℕ, ◌<◌, List, length, ap, ◌∙◌}
use Rattle.std.proofs.lemmas.List.{length-map, get_or-map}
use Rattle.rail_model.specs.declared.path.Path.{Path}
use Rattle.rail_model.specs.declared.tables.Tables.{Tables}
use Rattle.rail_model.specs.Tables.{no_run, run_at, path_in}
use Rattle.line_tables.specs.Paths.{no_path, paths_of, path_at}

module _ (tables : Tables) (paths : List Path) (are : paths ≡ paths_of tables) where
  pub paths_count : length paths ≡ length tables.runs
  paths_count = ap length are ∙ length-map tables.runs (path_in tables)

  -- the path at a place is that of the run of this number
  pub path_of_run : (n : ℕ) → n < length tables.runs → path_at paths n ≡ path_in tables (run_at tables n)
  path_of_run n l = ap (λ ps. path_at ps n) are ∙ get_or-map (path_in tables) tables.runs n no_run no_path l
