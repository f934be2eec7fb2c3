use Rattle.std.proofs.Common.{ℕ, ◌<◌}
use Rattle.critical_chain.specs.Parts.{HasTie, tie_in}
use Rattle.critical_chain.proofs.checking.has_ties.Given as goal

abbrev pub invariant-loop-j : goal.invariant-loop-j
invariant-loop-j l = (k : ℕ) → k < l.j → HasTie l.cut l.entries k (tie_in l.placed k)
