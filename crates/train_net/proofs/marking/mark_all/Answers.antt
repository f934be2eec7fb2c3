use Rattle.std.proofs.Common.{◌<◌, get_or, sym, subst}
use Rattle.std.specs.Prelude.{IfSome, None, slice_index_or}
use Rattle.plan_model.specs.Members.{no_use}
use Rattle.train_net.proofs.Marks.{none_marked, next_marked, all_marked}
use Rattle.train_net.proofs.marking.mark_all.Goals as goal

pub loop-one-init : goal.loop-one-init
loop-one-init c = none_marked c.args.near.now c.args.uses.now c.args.marks.now

pub mark-requires : goal.mark-requires
mark-requires c =
    let k = c.loop-one.one-index in
    subst (λ n. IfSome (slice_index_or c.args.near.now (get_or c.args.uses.now k no_use).block None) (λ x. x.train < n))
    (sym c.loop-one.invariant.count) (c.requires.trains k no_use c.loop-one-test.true)

pub loop-one-preserved : goal.loop-one-preserved
loop-one-preserved c =
    next_marked c.args.near.now c.args.uses.now c.args.marks.now c.loop-one.marks c.mark.new.marks c.loop-one.one-index
    c.loop-one.invariant c.mark.ensures.count c.mark.ensures.keep c.mark.ensures.marked

pub returns-clause-marked : goal.returns-clause-marked
returns-clause-marked c =
    all_marked c.args.near.now c.args.uses.now c.args.marks.now c.loop-one.marks c.loop-one.one-index c.loop-one-test.false
    c.loop-one.invariant
