-- Runs in the order of their names, and their uses of blocks.
use Rattle.std.specs.Prelude.{ℕ, ℤ, Bool, List, [], map, length, slice_index_or}
use Rattle.std.specs.List.{flat_map, range_with_len}
use Rattle.std.specs.declared.cmp.Ordering.{Ordering}
use Rattle.std.specs.Ordering.{nat_cmp, int_cmp, ordering_then, is_lt}
use Rattle.rail_model.specs.declared.stair.Use.{Use}
use Rattle.rail_model.specs.declared.stair.Stair.{Stair}
use Rattle.rail_model.specs.Conflict.{stair_at}
use Rattle.conflict_finder.specs.Types.{Ranked, RunUse, RunStart}

-- a placeholder where there is none
abbrev pub no_ranked : Ranked
no_ranked = record { name = []; stair = 0 }

-- the run at a place among the stairways
abbrev pub ranked_at : List Stair → ℕ → Ranked
ranked_at stairs i = record { name = (stair_at stairs i).run; stair = i }

abbrev pub runs_of : List Stair → List Ranked
runs_of stairs = map (ranked_at stairs) (range_with_len 0 (length stairs))

-- a use of a stairway, with the number of its run
abbrev pub run_use_of : ℕ → Use → RunUse
run_use_of run u = record { start = u.start; «end» = u.«end»; block = u.block; run = run }

-- the uses of the run of a number
abbrev pub uses_of : List Stair → List Ranked → ℕ → List Use
uses_of stairs runs k =
    (stair_at stairs (slice_index_or runs k no_ranked).stair).uses

-- the uses of the runs, in the order of their numbers
abbrev pub all_run_uses : List Stair → List Ranked → List RunUse
all_run_uses stairs runs =
    flat_map (λ k. map (run_use_of k) (uses_of stairs runs k)) (range_with_len 0 (length runs))

-- the uses of one run after another, in the order in which they enter the line
abbrev pub run_uses_in_turn : List Stair → List RunStart → List RunUse
run_uses_in_turn stairs starts =
    flat_map (λ e. map (run_use_of e.run) (stair_at stairs e.stair).uses) starts

-- the order of the sweep: by block, then by start, then by run
abbrev pub key_of : RunUse → ℕ × ℤ × ℕ
key_of b = (b.block, b.start, b.run)

abbrev pub key_cmp : ℕ × ℤ × ℕ → ℕ × ℤ × ℕ → Ordering
key_cmp x y = ordering_then (ordering_then (nat_cmp x.0 y.0) (int_cmp x.1 y.1)) (nat_cmp x.2 y.2)

-- whether one use comes before another in this order
abbrev pub is_swept_before : RunUse → RunUse → Bool
is_swept_before a b = is_lt (key_cmp (key_of a) (key_of b))
