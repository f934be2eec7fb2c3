-- What an input says: the edits of a line's base, the tables that they make and planners' scripts, or the row at which it is refused.
use Rattle.std.specs.Prelude.{ℕ, Bool, ◌+◌, nat_lt, ◌==◌, ◌&&◌, if◌then◌else◌, List, [], ◌∷◌, ◌++◌, length, sum_by, Result, Ok, Err, drop, Option, Some, None}
use Rattle.std.specs.Result.{result_map_both}
use Rattle.rail_model.specs.declared.edit.Edit.{Edit}
use Rattle.rail_model.specs.declared.form.Form.{Form}
use Rattle.rail_model.specs.declared.tables.Tables.{Tables}
use Rattle.rail_model.specs.Rules.{no_tables, Refused, after_edits, first_refused}
use Rattle.row_text.specs.declared.line.Line.{Line}
use Rattle.row_text.specs.declared.line.Line.TheVariants as line
use Rattle.row_text.specs.SheetRows.{Row}
use Rattle.row_text.specs.Rows.{rows_of}
use Rattle.row_text.specs.Lines.{read_in, ◌>>=◌, version_of, first_line}
use Rattle.plan_model.specs.declared.scripts.Task.{Task}
use Rattle.plan_model.specs.declared.scripts.Task.TheVariants as task
use Rattle.plan_model.specs.Journal.{with_task}
use Rattle.plan_book.specs.declared.book.TheConstants.{TASKS}
use Rattle.capacity_cmd.specs.Types.{Cause, Refusal, Accepted}
use Rattle.capacity_cmd.specs.declared.status.Cause.TheVariants as cause
use Rattle.capacity_cmd.specs.declared.limit.TheConstants.{INPUT_BYTES}

-- the edits of the base rows, and the tasks of each planner's script, planner 1's first
pub record Spelling : Type 0 where
  pub base : List Edit
  pub scripts : List (List Task)

abbrev pub nothing : Spelling
nothing = record { base = []; scripts = [] }

-- a script is that of the next planner, where the command takes so many
abbrev pub takes_planner : ℕ → List (List Task) → ℕ → Bool
takes_planner planners scripts planner = nat_lt (length scripts) planners && planner == length scripts + 1

-- a task stands in a script, and there are at most 256 in all
abbrev pub takes_task : List (List Task) → Bool
takes_task scripts = nat_lt 0 (length scripts) && nat_lt (sum_by length scripts) TASKS

-- what is spelled with one more line, where the line may stand there
abbrev pub where_it_stands : Bool → Spelling → Result Spelling Cause
where_it_stands stands more = if stands then Ok more else Err cause.Script

abbrev pub with_one_task : Spelling → Task → Result Spelling Cause
with_one_task so_far t =
    where_it_stands (takes_task so_far.scripts) (record so_far { scripts = with_task so_far.scripts t })

abbrev pub with_line : ℕ → Spelling → Line → Result Spelling Cause
with_line planners so_far (line.Planner planner) =
    where_it_stands (takes_planner planners so_far.scripts planner)
    (record so_far { scripts = so_far.scripts ++ [] ∷ [] })
with_line planners so_far (line.Ask section) = with_one_task so_far (task.Ask section)
with_line planners so_far (line.Edit e) =
    if nat_lt 0 (length so_far.scripts) then with_one_task so_far (task.Edit e)
    else Ok (record so_far { base = so_far.base ++ e ∷ [] })

-- what an input that isn't refused says: the base edits and scripts that its rows spell, and the tables that the edits make
pub record Content : Type 0 where
  pub spelling : Spelling
  pub tables : Tables

-- what a command is run on: the tables, the number of the last edit that made them, and the scripts
abbrev pub accepted_of : Content → Accepted
accepted_of c = record { tables = c.tables; at = length c.spelling.base; scripts = c.spelling.scripts }

-- a row is refused, counted from 1, or with row 0 the input as a whole
abbrev pub refused : {X : Type 0} → ℕ → Cause → Result X Refusal
refused row why = Err (record { row = row; cause = why })

-- what is found, or the fault for which the row of a number is refused
abbrev pub at_row : {X : Type 0} → ℕ → Result X Cause → Result X Refusal
at_row row found = result_map_both (λ x. x) (λ why. record { row = row; cause = why }) found

abbrev pub in_form : {X : Type 0} → Result X Form → Result X Cause
in_form found = result_map_both (λ x. x) (λ fault. cause.Form fault) found

-- what rows spell after others, in a version of the rows, where the first of them has this number; the first row with a
-- fault is refused, first for its form and then for its place
abbrev pub spelling_from : ℕ → ℕ → ℕ → Spelling → List Row → Result Spelling Refusal
spelling_from planners version number so_far [] = Ok so_far
spelling_from planners version number so_far (row ∷ rows) = do
  more ← at_row number (in_form (read_in version row) >>= with_line planners so_far)
  spelling_from planners version (number + 1) more rows

-- the tables that base edits make, where the first stands in the row of this number; the first that a rule refuses is refused
abbrev pub unless_refused : ℕ → Tables → Option Refused → Result Tables Refusal
unless_refused number tables None = Ok tables
unless_refused number tables (Some r) = refused (number + r.place) (cause.Rule r.rule)

abbrev pub tables_from : ℕ → List Edit → Result Tables Refusal
tables_from number base = unless_refused number (after_edits no_tables base) (first_refused no_tables base)

-- what the rows of an input say, for a command that takes the scripts of so many planners: their version is told first,
-- then all rows are read, and then the edits of the base are made
abbrev pub content_in : ℕ → Result ℕ Form → List Row → Result Content Refusal
content_in planners version rows = do
  known ← at_row 1 (in_form version)
  spelling ← spelling_from planners known (first_line rows + 1) nothing (drop (first_line rows) rows)
  tables ← tables_from (first_line rows + 1) spelling.base
  Ok (record { spelling = spelling; tables = tables })

abbrev pub content_of_rows : ℕ → List Row → Result Content Refusal
content_of_rows planners rows = content_in planners (version_of rows) rows

-- what an input says, or its refusal; an input may have no more bytes than are read
unfoldable pub content_of_input : ℕ → List ℕ → Result Content Refusal
content_of_input planners input =
    if nat_lt INPUT_BYTES (length input) then refused 0 cause.TooLong else content_of_rows planners (rows_of input)
