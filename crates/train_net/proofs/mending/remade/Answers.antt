use Rattle.std.proofs.Common.{inl, inr, subst}
use Rattle.std.specs.Prelude.{IfSome}
use Rattle.train_net.specs.Mending.{AreAnewTo}
use Rattle.train_net.proofs.Remade.{next_remade}
use Rattle.train_net.proofs.mending.remade.Goals as goal

pub loop-member-preserved-then-branch : goal.loop-member-preserved-then-branch
loop-member-preserved-then-branch c =
    rw (c.in_ok-push.ensures, c.deref.ensures.value)
    (next_remade c.args.cut.now c.args.earlier.origin.now c.args.earlier.now.now c.args.marks.now c.args.order.now c.args.earlier.edges.now c.loop-member.member
    c.loop-member.edges c.keep_edges.new.kept.items c.loop-member.invariant (inr (c.in_ok-keep_edges.ensures c.if-branch.true)))

pub loop-member-preserved : goal.loop-member-preserved
loop-member-preserved c =
    rw (c.in_ok-push-2.ensures, c.slice.ensures)
    (next_remade c.args.cut.now c.args.earlier.origin.now c.args.earlier.now.now c.args.marks.now c.args.order.now c.args.earlier.edges.now c.loop-member.member
    c.loop-member.edges c.in-Some.to c.loop-member.invariant
    (inl (subst (λ o. IfSome o (AreAnewTo c.args.cut.now c.args.order.now c.loop-member.member)) c.in-Some.is c.in_ok-to.ensures)))
