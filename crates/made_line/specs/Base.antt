-- The made line: what is drawn from its number, its names, its base and the scripts of its planners.
use Rattle.std.specs.Prelude.{ℕ, zero, suc, ◌+◌, ◌*◌, ◌/◌, ◌%◌, Bool, ◌&&◌, nat_lt, nat_le, List, [], ◌∷◌, ◌++◌, codes, map, true, false, slice_index_or}
use Rattle.std.specs.List.{range_with_len, flat_map}
use Rattle.rail_model.specs.declared.items.Block.{Block}
use Rattle.rail_model.specs.declared.items.Signal.{Signal}
use Rattle.rail_model.specs.declared.items.Route.{Route}
use Rattle.rail_model.specs.declared.items.Leg.{Leg}
use Rattle.rail_model.specs.declared.items.Run.{Run}
use Rattle.rail_model.specs.declared.items.Section.{Section}
use Rattle.rail_model.specs.declared.items.Item.TheVariants as item
use Rattle.rail_model.specs.declared.edit.Edit.{Edit}
use Rattle.rail_model.specs.declared.edit.Edit.TheVariants as edit
use Rattle.rail_model.specs.declared.tables.Tables.{Tables}
use Rattle.rail_model.specs.Tables.{no_run}
use Rattle.plan_model.specs.declared.scripts.Task.{Task}
use Rattle.plan_model.specs.declared.scripts.Task.TheVariants as task

-- each draw goes on from a number to the next
abbrev pub next_number : ℕ → ℕ
next_number x = (x * 1103515245 + 12345) % 2147483648

-- what is drawn below a limit where the numbers have come to x
abbrev pub draw : ℕ → ℕ → ℕ
draw x below = next_number x / 65536 % below

-- the number after so many draws
unfoldable pub after_draws : ℕ → ℕ → ℕ
after_draws x zero = x
after_draws x (suc count) = next_number (after_draws x count)

-- a byte of ASCII that is printed
abbrev pub is_printed : ℕ → Bool
is_printed b = nat_le 32 b && nat_lt b 127

abbrev pub digit : ℕ → ℕ
digit n = 48 + n

-- b00 to b63
abbrev pub block_name : ℕ → List ℕ
block_name i = codes "b" ++ digit (i / 10) ∷ digit (i % 10) ∷ []

-- s00 to s63
abbrev pub signal_name : ℕ → List ℕ
signal_name i = codes "s" ++ digit (i / 10) ∷ digit (i % 10) ∷ []

abbrev pub route_name : List ℕ
route_name = codes "line"

-- r000 to r299
abbrev pub run_name : ℕ → List ℕ
run_name i = codes "r" ++ digit (i / 100) ∷ digit (i / 10 % 10) ∷ digit (i % 10) ∷ []

-- q0 to q7
abbrev pub section_name : ℕ → List ℕ
section_name j = codes "q" ++ digit j ∷ []

-- ---- blocks, by one draw each

abbrev pub made_block : ℕ → ℕ → Block
made_block x i = record { name = block_name i; length_m = 1000 + draw x 1000 }

-- the i-th block, from 0, and the first so many
abbrev pub block_of : ℕ → ℕ → Block
block_of n i = made_block (after_draws n i) i

unfoldable pub first_blocks : ℕ → ℕ → List Block
first_blocks n count = map (block_of n) (range_with_len 0 count)

-- ---- signals and the route

abbrev pub made_signal : ℕ → Signal
made_signal i = record {
  name = signal_name i;
  block = block_name i;
  approach_m = 1000;
  watch_s = 10;
  form_s = 5;
  overlap_m = 50;
  release_s = 5;
}

unfoldable pub first_signals : ℕ → List Signal
first_signals count = map made_signal (range_with_len 0 count)

unfoldable pub signal_names : ℕ → List (List ℕ)
signal_names count = map signal_name (range_with_len 0 count)

abbrev pub made_route : Route
made_route = record { name = route_name; signals = signal_names 64 }

-- ---- runs, by 65 draws each: first the length, and then the running times of 64 legs in order

abbrev pub made_leg : ℕ → Leg
made_leg x = record { running_s = 40 + draw x 11; dwell_s = 0 }

unfoldable pub first_legs : ℕ → ℕ → List Leg
first_legs x count = map (λ j. made_leg (after_draws x j)) (range_with_len 0 count)

abbrev pub made_run : ℕ → ℕ → Run
made_run x i = record {
  name = run_name i;
  route = route_name;
  length_m = 100 + draw x 300;
  tail_s = 10;
  start_s = 1000 + 300 * i;
  legs = first_legs (next_number x) 64;
}

-- the i-th run, from 0: the draws of the runs before it come first
abbrev pub run_from : ℕ → ℕ → Run
run_from x i = made_run (after_draws x (65 * i)) i

unfoldable pub first_runs : ℕ → ℕ → List Run
first_runs x count = map (run_from x) (range_with_len 0 count)

-- and before them those of the blocks
abbrev pub run_of : ℕ → ℕ → Run
run_of n i = run_from (after_draws n 64) i

abbrev pub made_runs : ℕ → List Run
made_runs n = first_runs (after_draws n 64) 300

-- ---- sections, each of 8 blocks that follow each other

unfoldable pub block_names : ℕ → ℕ → List (List ℕ)
block_names first count = map block_name (range_with_len first count)

abbrev pub made_section : ℕ → Section
made_section j = record {
  name = section_name j;
  from_s = 0;
  to_s = 86400;
  add_percent = 33;
  blocks = block_names (8 * j) 8;
}

unfoldable pub first_sections : ℕ → List Section
first_sections count = map made_section (range_with_len 0 count)

-- ---- the base

abbrev pub put_block : Block → Edit
put_block b = edit.Put (item.Block b)

abbrev pub put_signal : Signal → Edit
put_signal s = edit.Put (item.Signal s)

abbrev pub put_route : Route → Edit
put_route r = edit.Put (item.Route r)

abbrev pub put_run : Run → Edit
put_run r = edit.Put (item.Run r)

abbrev pub put_section : Section → Edit
put_section s = edit.Put (item.Section s)

unfoldable pub base_edits : ℕ → List Edit
base_edits n =
    map put_block (first_blocks n 64)
    ++ map put_signal (first_signals 64)
    ++ put_route made_route ∷ []
    ++ map put_run (made_runs n)
    ++ map put_section (first_sections 8)

abbrev pub base_tables : ℕ → Tables
base_tables n = record {
  blocks = first_blocks n 64;
  signals = first_signals 64;
  routes = made_route ∷ [];
  runs = made_runs n;
  sections = first_sections 8;
  connections = [];
}

-- a run that starts 30 s later
abbrev pub later_run : Run → Run
later_run run = record run { start_s = run.start_s + 30 }

abbrev pub change_run : Run → Edit
change_run run = edit.Change (item.Run (later_run run))

-- the two tasks of planner p, from 1, at k, from 0 to 15: a run of these runs starts later, and a section is asked for
abbrev pub change_task : List Run → ℕ → ℕ → Task
change_task runs p k = task.Edit (change_run (slice_index_or runs (60 * p + k) no_run))

abbrev pub ask_task : ℕ → Task
ask_task k = task.Ask (section_name (k % 8))

-- the first tasks of planner p: two for each k
unfoldable pub first_tasks : List Run → ℕ → ℕ → List Task
first_tasks runs p count = flat_map (λ k. change_task runs p k ∷ ask_task k ∷ []) (range_with_len 0 count)

-- the scripts of the first planners: for each 16 changes
unfoldable pub first_scripts : List Run → ℕ → List (List Task)
first_scripts runs count = map (λ p. first_tasks runs p 16) (range_with_len 1 count)

abbrev pub scripts_of_made : ℕ → List (List Task)
scripts_of_made n = first_scripts (made_runs n) 4

-- a task is an edit, and no question
abbrev pub is_edit : Task → Bool
is_edit (task.Edit e) = true
is_edit (task.Ask section) = false
