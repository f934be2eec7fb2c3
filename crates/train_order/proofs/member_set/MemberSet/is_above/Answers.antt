use Rattle.std.proofs.Common.{arith}
use Rattle.std.proofs.lemmas.Bool.{leb-true}
use Rattle.train_order.proofs.member_set.MemberSet.is_above.Goals as goal

pub returns : goal.returns
returns c t k l = c.next.ensures.none k (omega arith) (omega (arith, l, leb-true _ _ t))
