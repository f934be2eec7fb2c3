-- Scripts: what each planner wants done, in order.
use Rattle.std.specs.Prelude.{ℕ, ◌-◌, List, [], ◌∷◌, ◌++◌, length, slice_index_or, slice_set, ◌+◌, ◌==◌, Bool, true, false, if◌then◌else◌, take, drop, filter_map, count_by, sum_by, Option, None, Some}
use Rattle.plan_model.specs.Types.{Task, Answer, Act, Entry}
use Rattle.std.specs.List.{last_or, range_with_len}
use Rattle.rail_model.specs.declared.edit.Edit.{Edit}
use Rattle.rail_model.specs.declared.tables.Tables.{Tables}
use Rattle.rail_model.specs.Name.{is_same}
use Rattle.rail_model.specs.Rules.{no_tables, after_edits}
use Rattle.plan_model.specs.declared.scripts.Task.TheVariants as task
use Rattle.plan_model.specs.declared.journal.Act.TheVariants as act

-- the scripts, with one task more at the end of the last
abbrev pub with_task : List (List Task) → Task → List (List Task)
with_task scripts task =
    let last = length scripts - 1 in slice_set scripts last (slice_index_or scripts last [] ++ task ∷ [])

-- the script of a planner, from 1; planner 0 has none
abbrev pub script : List (List Task) → ℕ → List Task
script scripts planner = slice_index_or ([] ∷ scripts) planner []

-- ---- the opening

-- what a journal begins with: tables, the number of the last edit before it, and the planners' scripts
pub record Opening : Type 0 where
  pub tables : Tables
  pub at : ℕ
  pub scripts : List (List Task)

-- stands where a journal has no opening
abbrev pub no_opening : Opening
no_opening = record { tables = no_tables; at = 0; scripts = [] }

-- the opening that an act makes, if it makes one
abbrev pub opening_of : Act → Opening
opening_of (act.Opened tables at scripts) = record { tables = tables; at = at; scripts = scripts }
opening_of a = no_opening

-- the opening of a journal: its first entry
abbrev pub opening : List Entry → Opening
opening [] = no_opening
opening (e ∷ later) = opening_of e.act

-- the planners: from 1 on, one for each script
abbrev pub planners : List Entry → List ℕ
planners journal = range_with_len 1 (length (opening journal).scripts)

-- ---- edits

-- the edit that an act makes, if it makes one; a refused edit is not made
abbrev pub edit_of : Act → Option Edit
edit_of (act.Edited planner at edit) = Some edit
edit_of a = None

-- the edits of a journal, in order
abbrev pub edits : List Entry → List Edit
edits journal = filter_map (λ e. edit_of e.act) journal

-- the number of the last edit: edits are numbered on from the opening's number
unfoldable pub last_number : List Entry → ℕ
last_number journal = (opening journal).at + length (edits journal)

-- the tables after the edit of a number, which are the opening's at its number
unfoldable pub tables_at : List Entry → ℕ → Tables
tables_at journal number =
    after_edits (opening journal).tables (take (number - (opening journal).at) (edits journal))

-- the tables after all edits
unfoldable pub tables_of : List Entry → Tables
tables_of journal = after_edits (opening journal).tables (edits journal)

-- ---- publications

-- a published answer, with the number of the edit that it speaks of
pub record Publication : Type 0 where
  pub at : ℕ
  pub answer : Answer

-- the publication of this section that an act makes, if it makes one
abbrev pub publication_of : List ℕ → Act → Option Publication
publication_of name (act.Published section at answer) =
    if is_same section name then Some (record { at = at; answer = answer }) else None
publication_of name a = None

-- the publications of a section, by its name, in order
abbrev pub publications : List Entry → List ℕ → List Publication
publications journal name = filter_map (λ e. publication_of name e.act) journal

-- the last of them, if there is one
unfoldable pub last_publication : List Entry → List ℕ → Option Publication
last_publication journal name = last_or None (publications journal name)

-- ---- passes

-- an act issues a pass
abbrev pub issues : Act → Bool
issues (act.Entered number) = true
issues a = false

-- how many passes are issued: pass 0, and one by each entry that enters
unfoldable pub issued : List Entry → ℕ
issued journal = count_by (λ e. issues e.act) journal + 1

-- ---- tasks

-- the task of this planner that an act does, if it does one; it is done also where its edit is refused
abbrev pub task_of : ℕ → Act → Option Task
task_of planner (act.Edited by at edit) = if by == planner then Some (task.Edit edit) else None
task_of planner (act.Refused by rule edit) = if by == planner then Some (task.Edit edit) else None
task_of planner (act.Asked by section reply) = if by == planner then Some (task.Ask section) else None
task_of planner a = None

-- the tasks of a planner that are done, in order
unfoldable pub done_by : List Entry → ℕ → List Task
done_by journal planner = filter_map (λ e. task_of planner e.act) journal

-- the script of a planner, from 1
abbrev pub script_of : List Entry → ℕ → List Task
script_of journal planner = script (opening journal).scripts planner

-- the tasks of a script that are left: as many are gone as are done
abbrev pub left_of : List Entry → ℕ → List Task
left_of journal planner = drop (length (done_by journal planner)) (script_of journal planner)

-- how many tasks are left in all scripts
abbrev pub tasks_left : List Entry → ℕ
tasks_left journal = sum_by (λ planner. length (left_of journal planner)) (planners journal)
