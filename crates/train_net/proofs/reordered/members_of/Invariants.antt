use Rattle.std.proofs.Common.{◌≡◌, map, take}
use Rattle.train_net.proofs.reordered.members_of.Given as goal

abbrev pub invariant-loop-stand : goal.invariant-loop-stand
invariant-loop-stand l = l.members.items ≡ map (λ s. s.member) (take l.stand-index l.stands)
