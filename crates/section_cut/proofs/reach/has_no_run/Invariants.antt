use Rattle.std.proofs.Common.{◌≢◌, ℕ, ◌<◌}
use Rattle.rail_model.specs.Tables.{run_at}
use Rattle.section_cut.proofs.reach.has_no_run.Given as goal

-- the runs so far are on other routes
abbrev pub invariant-loop-n : goal.invariant-loop-n
invariant-loop-n l = (k : ℕ) → k < l.n → (run_at l.tables k).route ≢ l.route
