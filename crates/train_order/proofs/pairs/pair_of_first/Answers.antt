use Rattle.std.proofs.Common.{◌<◌, arith}
use Rattle.plan_model.specs.Members.{member_count}
use Rattle.train_order.proofs.Least.{first_of_all}
use Rattle.train_order.proofs.pairs.pair_of_first.Goals as goal

pub returns-in-Some : goal.returns-in-Some
returns-in-Some c =
    let cut = c.args.cut.now in
    let there : c.loop-i.i < member_count cut =
    omega (arith, c.loop-i-test.true, c.min-i-end.ensures, c.member_count.ensures.count) in
    first_of_all cut c.member_count.ensures.sound c.loop-i.i c.in-Some.j there c.loop-i.invariant c.in-Some.ensures
