use Rattle.std.proofs.Common.{◌≡◌}
use Rattle.line_cutter.proofs.Ways.{moved_upto}
use Rattle.line_cutter.proofs.piece.moved_run.Given as goal

abbrev pub invariant-loop-k : goal.invariant-loop-k
invariant-loop-k l = l.some ≡ moved_upto l.a l.b l.uses l.k
