use Rattle.std.proofs.Common.{ℕ, ◌+◌, ◌<◌}
use Rattle.critical_chain.specs.Parts.{MayFollowAt}
use Rattle.critical_chain.proofs.keeping.follow_in_turn.Given as goal

abbrev pub invariant-loop-k : goal.invariant-loop-k
invariant-loop-k l = (m : ℕ) → m + 1 < l.k → MayFollowAt l.cut l.entries l.placed l.place l.visits m
