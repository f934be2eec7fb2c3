use Rattle.session_run.proofs.Seating.{IsSeating}
use Rattle.session_run.proofs.threads.seated.Given as goal

-- so many actors have taken their seats
abbrev pub invariant-loop-place : goal.invariant-loop-place
invariant-loop-place l = IsSeating l.desk l.planners l.workers l.place l.passes l.actors.items
