-- The sweep over the uses.
use Rattle.std.specs.Prelude.{◌≡◌, ◌⊎◌, ℕ, ◌+◌, ◌<◌, ◌<ℤ◌, Bool, ◌&&◌, ◌==◌, List, length, map, drop, slice_index_or, AllPairs, pos, int_lt}
use Rattle.std.specs.Int.{int_min}
use Rattle.std.specs.List.{flat_map, range_with_len, take_while}
use Rattle.rail_model.specs.Conflict as whole
use Rattle.conflict_finder.specs.Types.{Ranked, RunUse}
use Rattle.conflict_finder.specs.Runs.{no_ranked}

-- the order of the sweep: by block, then by start, then by the run's number
abbrev pub IsSweptBefore : RunUse → RunUse → Type 0
IsSweptBefore a b =
    (a.block < b.block)
    ⊎ ((a.block ≡ b.block) × ((a.start <ℤ b.start) ⊎ ((a.start ≡ b.start) × (a.run < b.run))))

abbrev pub IsSwept : List RunUse → Type 0
IsSwept run_uses = AllPairs IsSweptBefore run_uses

-- of two uses in this order, the second is of the same block and starts before the first ends
abbrev pub meets : RunUse → RunUse → Bool
meets one other = (one.block == other.block) && int_lt other.start one.«end»

-- the conflict that two uses make
abbrev pub conflict_of : List Ranked → RunUse → RunUse → whole.Conflict
conflict_of runs one other = record {
  block = one.block;
  first = (slice_index_or runs one.run no_ranked).name;
  first_start = one.start;
  second = (slice_index_or runs other.run no_ranked).name;
  from = other.start;
  to = int_min one.«end» other.«end»;
}

-- a placeholder where there is none
abbrev pub no_run_use : RunUse
no_run_use = record { start = pos 0; «end» = pos 0; block = 0; run = 0 }

-- what is found by the one at i: its conflicts with those that follow it, up to the first that it
-- doesn't meet
abbrev pub conflicts_at : List Ranked → List RunUse → ℕ → List whole.Conflict
conflicts_at runs run_uses i =
    map (conflict_of runs (slice_index_or run_uses i no_run_use))
    (take_while (meets (slice_index_or run_uses i no_run_use)) (drop (i + 1) run_uses))

-- what the whole sweep finds: the conflicts of all uses
abbrev pub all_conflicts : List Ranked → List RunUse → List whole.Conflict
all_conflicts runs run_uses =
    flat_map (conflicts_at runs run_uses) (range_with_len 0 (length run_uses))
