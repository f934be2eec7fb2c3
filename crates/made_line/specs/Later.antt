-- The made line when its scripts are done: the runs that they change start later, and all else is as in the base.
use Rattle.std.specs.Prelude.{ℕ, ◌%◌, Bool, ◌&&◌, nat_lt, nat_le, if◌then◌else◌, List, map, filter_map, Option, Some, None}
use Rattle.std.specs.List.{flat_map, range_with_len}
use Rattle.rail_model.specs.declared.items.Run.{Run}
use Rattle.rail_model.specs.declared.edit.Edit.{Edit}
use Rattle.rail_model.specs.declared.tables.Tables.{Tables}
use Rattle.plan_model.specs.declared.scripts.Task.{Task}
use Rattle.plan_model.specs.declared.scripts.Task.TheVariants as task
use Rattle.made_line.specs.Base.{run_of, later_run, base_tables}

-- the edit of a task, if it is one
abbrev pub edit_in : Task → Option Edit
edit_in (task.Edit e) = Some e
edit_in (task.Ask section) = None

-- the edits of all scripts, those of the first planner first
abbrev pub edits_in : List (List Task) → List Edit
edits_in scripts = flat_map (filter_map edit_in) scripts

-- the scripts change the run of this number, from 0: runs 60 to 75, 120 to 135, 180 to 195 and 240 to 255
abbrev pub is_changed : ℕ → Bool
is_changed i = nat_le 60 i && nat_lt (i % 60) 16

-- the first so many runs: those whose numbers pass a test start later
unfoldable pub runs_where_later : ℕ → (ℕ → Bool) → ℕ → List Run
runs_where_later n is_later count =
    map (λ i. if is_later i then later_run (run_of n i) else run_of n i) (range_with_len 0 count)

-- the tables of the base, with these runs later
abbrev pub tables_where_later : ℕ → (ℕ → Bool) → Tables
tables_where_later n is_later = record (base_tables n) { runs = runs_where_later n is_later 300 }

-- the tables when the scripts are done
abbrev pub later_tables : ℕ → Tables
later_tables n = tables_where_later n is_changed
