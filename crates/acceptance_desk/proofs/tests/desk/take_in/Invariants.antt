use Rattle.std.proofs.Common.{All, vec_len}
use Rattle.turn_desk.specs.Known.{IsReady}
use Rattle.acceptance_desk.proofs.tests.desk.take_in.Given as goal

abbrev pub invariant-loop-other : goal.invariant-loop-other
invariant-loop-other l = IsReady l.desk l.main × All (IsReady l.desk) l.others.items

abbrev pub decreases-loop-other : goal.decreases-loop-other
decreases-loop-other l = vec_len l.others
