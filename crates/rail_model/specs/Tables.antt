-- Looking things up in tables, and the path of a run.
use Rattle.std.specs.Prelude.{ℕ, List, [], map, slice_index_or}
use Rattle.std.specs.List.{position_or_len, zip}
use Rattle.rail_model.specs.Types.{Block, Signal, Route, Leg, Run, Section, Tables, Hop, Path}
use Rattle.rail_model.specs.Name.{is_same}
use Rattle.rail_model.specs.Blocking.{hop_count, arrival}

-- the place of a name among items, from 0, or how many there are where it isn't there
abbrev pub number_of : {X : Type 0} → (X → List ℕ) → List X → List ℕ → ℕ
number_of name items n = position_or_len (λ x. is_same (name x) n) items

-- placeholders where a name isn't there
abbrev pub no_block : Block
no_block = record { name = []; length_m = 0 }

abbrev pub no_signal : Signal
no_signal = record { name = []; block = []; approach_m = 0; watch_s = 0; form_s = 0; overlap_m = 0; release_s = 0 }

abbrev pub no_route : Route
no_route = record { name = []; signals = [] }

abbrev pub no_run : Run
no_run = record { name = []; route = []; length_m = 0; tail_s = 0; start_s = 0; legs = [] }

abbrev pub no_section : Section
no_section = record { name = []; from_s = 0; to_s = 0; add_percent = 0; blocks = [] }

-- the run, and the section, with a number
abbrev pub run_at : Tables → ℕ → Run
run_at tables n = slice_index_or tables.runs n no_run

abbrev pub section_at : Tables → ℕ → Section
section_at tables n = slice_index_or tables.sections n no_section

-- the name of the block with a number
abbrev pub block_name : Tables → ℕ → List ℕ
block_name tables n = (slice_index_or tables.blocks n no_block).name

-- the number of a block
abbrev pub block_number : Tables → List ℕ → ℕ
block_number tables name = number_of (λ b. b.name) tables.blocks name

-- the items of these names
abbrev pub block_named : Tables → List ℕ → Block
block_named tables name = slice_index_or tables.blocks (block_number tables name) no_block

abbrev pub signal_named : Tables → List ℕ → Signal
signal_named tables name = slice_index_or tables.signals (number_of (λ s. s.name) tables.signals name) no_signal

abbrev pub route_named : Tables → List ℕ → Route
route_named tables name = slice_index_or tables.routes (number_of (λ r. r.name) tables.routes name) no_route

abbrev pub run_named : Tables → List ℕ → Run
run_named tables name = slice_index_or tables.runs (number_of (λ r. r.name) tables.runs name) no_run

-- the hop of a run over the block beyond a signal, with the run's leg
abbrev pub hop_beyond : Tables → Signal → Leg → Hop
hop_beyond tables s leg = record {
  block = block_number tables s.block;
  block_m = (block_named tables s.block).length_m;
  approach_m = s.approach_m;
  watch_s = s.watch_s;
  form_s = s.form_s;
  overlap_m = s.overlap_m;
  release_s = s.release_s;
  running_s = leg.running_s;
  dwell_s = leg.dwell_s;
}

-- a run with its route's signals and their blocks looked up
abbrev pub path_in : Tables → Run → Path
path_in tables run = record {
  run = run.name;
  length_m = run.length_m;
  tail_s = run.tail_s;
  start_s = run.start_s;
  hops = map (λ p. hop_beyond tables (signal_named tables p.0) p.1) (zip (route_named tables run.route).signals run.legs);
}

-- when a run comes to the end of its path
abbrev pub last_arrival : Tables → Run → ℕ
last_arrival tables run = let path = path_in tables run in arrival path (hop_count path)
