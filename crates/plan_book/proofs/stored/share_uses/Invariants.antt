use Rattle.std.proofs.Common.{◌≡◌}
use Rattle.plan_book.proofs.stored.share_uses.Given as goal

-- the cut is as it was
abbrev pub invariant-loop-place : goal.invariant-loop-place
invariant-loop-place l = l.cut ≡ l.initial.cut
