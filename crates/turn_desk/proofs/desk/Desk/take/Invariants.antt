use Rattle.turn_desk.proofs.Waiting.{IsWaiting}
use Rattle.turn_desk.proofs.desk.Desk.take.Given as goal

abbrev pub invariant-loop : goal.invariant-loop
invariant-loop g l = IsWaiting l.initial.pass l.pass
