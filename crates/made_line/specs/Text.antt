-- The text of the made line: the rows of its base, and then those of its scripts.
use Rattle.std.specs.Prelude.{ℕ, List, ◌∷◌, ◌++◌, map}
use Rattle.std.specs.List.{flat_map, enumerate_from}
use Rattle.plan_model.specs.declared.scripts.Task.{Task}
use Rattle.plan_model.specs.declared.scripts.Task.TheVariants as task
use Rattle.row_text.specs.declared.line.Line.{Line}
use Rattle.row_text.specs.declared.line.Line.TheVariants as line
use Rattle.row_text.specs.SheetRows.{Row, text_of_rows}
use Rattle.row_text.specs.Lines.{row_in}
use Rattle.made_line.specs.Base.{base_edits, scripts_of_made}

abbrev pub line_of : Task → Line
line_of (task.Edit e) = line.Edit e
line_of (task.Ask section) = line.Ask section

-- a planner's script: the row that begins it, and one for each task
abbrev pub script_lines : ℕ → List Task → List Line
script_lines planner tasks = line.Planner planner ∷ map line_of tasks

abbrev pub lines_of_scripts : List (List Task) → List Line
lines_of_scripts scripts = flat_map (λ s. script_lines s.0 s.1) (enumerate_from 1 scripts)

unfoldable pub made_lines : ℕ → List Line
made_lines n = map line.Edit (base_edits n) ++ lines_of_scripts (scripts_of_made n)

-- the rows that spell lines
abbrev pub rows_of : List Line → List Row
rows_of lines = map (row_in 1) lines

-- the rows of all lines, as CSV writes them
abbrev pub made_text : ℕ → List ℕ
made_text n = text_of_rows (rows_of (made_lines n))
