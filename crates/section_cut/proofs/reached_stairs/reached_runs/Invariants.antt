use Rattle.std.proofs.Common.{◌≡◌, ℕ, ◌<◌, length, get_or, Option}
use Rattle.rail_model.specs.declared.stair.Stair.{Stair}
use Rattle.rail_model.specs.Tables.{run_at}
use Rattle.section_cut.specs.ReachedRuns.{IsStairIfReached}
use Rattle.section_cut.proofs.reached_stairs.reached_runs.Given as goal

-- the runs so far
abbrev pub invariant-loop-run : goal.invariant-loop-run
invariant-loop-run l =
    (length l.all.items ≡ l.run)
    × ((n : ℕ) (d : Option Stair) → n < l.run → IsStairIfReached l.before l.after l.fn.block (run_at l.after n) (get_or l.all.items n d))
