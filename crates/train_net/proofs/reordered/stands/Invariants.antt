use Rattle.std.proofs.Common.{◌≡◌, map}
use Rattle.std.specs.List.{range_with_len}
use Rattle.train_net.proofs.reordered.stands.Given as goal

-- where the first members are to stand
abbrev pub invariant-loop-member : goal.invariant-loop-member
invariant-loop-member l = map (λ s. s.member) l.stands.items ≡ range_with_len 0 l.member
