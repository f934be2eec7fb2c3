use Rattle.session_run.specs.Acting.{WorksOn}
use Rattle.session_run.proofs.actor.Actor.work_on.Given as goal

abbrev pub invariant-loop : goal.invariant-loop
invariant-loop g l = WorksOn l.initial.self l.self
