use Rattle.section_cut.specs.ReachedRuns.{is_on}
use Rattle.section_cut.proofs.PathsStay.{IsToldTo}
use Rattle.section_cut.proofs.passing_runs.runs_on_route.Given as goal

-- the runs so far
abbrev pub invariant-loop-run : goal.invariant-loop-run
invariant-loop-run l = IsToldTo (is_on l.name) l.after.runs l.run l.told.items
