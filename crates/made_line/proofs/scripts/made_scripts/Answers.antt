use Rattle.made_line.proofs.Images.{length-first_runs, starts_are_small}
use Rattle.made_line.proofs.scripts.made_scripts.Goals as goal

pub scripts_over-requires-clause-count : goal.scripts_over-requires-clause-count
scripts_over-requires-clause-count c = rw (c.slice.ensures, c.in_ok-runs.ensures) (length-first_runs _ 300)

pub scripts_over-requires-clause-starts : goal.scripts_over-requires-clause-starts
scripts_over-requires-clause-starts c = rw (c.slice.ensures, c.in_ok-runs.ensures) (starts_are_small _)

pub returns : goal.returns
returns c = rw (← c.from-draws.ensures, ← c.skip.ensures, ← c.in_ok-runs.ensures, ← c.slice.ensures) c.scripts_over.ensures
