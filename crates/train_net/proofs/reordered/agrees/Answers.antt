use Rattle.train_net.proofs.Agreeing.{none_yet, agree_more, agree_all}
use Rattle.train_net.proofs.reordered.agrees.Goals as goal

pub loop-member-init : goal.loop-member-init
loop-member-init c = none_yet c.args.origin.now c.args.before.now c.args.order.now

pub loop-member-preserved : goal.loop-member-preserved
loop-member-preserved c =
    agree_more c.args.origin.now c.args.before.now c.args.order.now c.loop-member.member-index c.loop-member.from c.in-Some.next
    c.loop-member.invariant c.in-Some.ensures.within.0 c.in-Some.ensures.within.1 c.in-Some.ensures.stands

pub next_from-requires : goal.next_from-requires
next_from-requires c = c.loop-member.invariant.within

pub returns : goal.returns
returns c =
    λ t. agree_all c.args.origin.now c.args.before.now c.args.order.now c.loop-member.member-index c.loop-member.from
    c.loop-member-test.false c.loop-member.invariant
