use Rattle.session_run.proofs.Seating.{IsEmptying}
use Rattle.session_run.proofs.threads.leave_all.Given as goal

-- so many actors have left
abbrev pub invariant-loop-gone : goal.invariant-loop-gone
invariant-loop-gone l = IsEmptying l.desk l.planners l.workers l.initial.main.seen l.main l.actors l._gone
