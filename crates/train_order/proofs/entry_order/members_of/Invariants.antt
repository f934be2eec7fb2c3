use Rattle.std.proofs.Common.{◌≡◌, map, take}
use Rattle.train_order.proofs.entry_order.members_of.Given as goal

abbrev pub invariant-loop-moment : goal.invariant-loop-moment
invariant-loop-moment l = l.members.items ≡ map (λ m. m.member) (take l.moment-index l.moments)
