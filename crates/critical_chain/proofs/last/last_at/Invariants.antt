use Rattle.std.proofs.Common.{◌≡◌}
use Rattle.critical_chain.specs.Parts.{latest_upto}
use Rattle.critical_chain.proofs.last.last_at.Given as goal

abbrev pub invariant-loop-i : goal.invariant-loop-i
invariant-loop-i l = l.latest ≡ latest_upto l.cut l.entries l.block l.i
