use Rattle.std.proofs.Common.{◌<◌, ◌≤◌, subst, sym, arith}
use Rattle.plan_model.specs.Members.{member_count}
use Rattle.train_order.proofs.Least.{IsLeast, least_at_first, least_more, least_is}
use Rattle.train_order.proofs.pairs.first_pair.Goals as goal

pub loop-i-init : goal.loop-i-init
loop-i-init c =
    least_at_first c.args.cut.now c.args.apart.now.words c.next-i.result (λ k l. c.next-i.ensures.none k (omega arith) l)

pub loop-i-preserved : goal.loop-i-preserved
loop-i-preserved c =
    let cut = c.args.cut.now in
    let words = c.args.apart.now.words in
    let there : c.loop-i.i < member_count cut = omega (arith, c.loop-i-test.true, c.member_count-count.ensures.count) in
    subst (IsLeast cut words c.next-i-in-loop-i.result) (sym c.least_with-least.ensures)
    (least_more cut words c.requires.apart c.member_count-count.ensures.sound c.loop-i.i c.next-i-in-loop-i.result there
    c.next-i-in-loop-i.ensures.none c.loop-i.least c.first_opposite-other.result c.first_opposite-other.ensures c.loop-i.invariant)

pub returns : goal.returns
returns c =
    let cut = c.args.cut.now in
    let past : member_count cut ≤ c.loop-i.i = omega (arith, c.loop-i-test.false, c.member_count-count.ensures.count) in
    least_is cut c.args.apart.now.words c.requires.apart c.loop-i.i past c.loop-i.least c.loop-i.invariant
