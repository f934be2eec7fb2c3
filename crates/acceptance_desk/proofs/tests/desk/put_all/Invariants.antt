use Rattle.turn_desk.specs.Known.{IsReady}
use Rattle.acceptance_desk.proofs.tests.desk.put_all.Given as goal

abbrev pub invariant-loop-number : goal.invariant-loop-number
invariant-loop-number g l = IsReady l.desk l.pass
