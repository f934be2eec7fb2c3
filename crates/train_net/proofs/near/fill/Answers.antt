use Rattle.std.proofs.Common.{◌<◌, length, get_or, ◌∙◌, arith, length-set}
use Rattle.plan_model.specs.Members.{no_use}
use Rattle.train_net.proofs.Filling.{filled_more}
use Rattle.train_net.proofs.near.fill.Goals as goal

pub loop-one-preserved : goal.loop-one-preserved
loop-one-preserved c =
    let uses = c.args.uses.now in
    let k = c.loop-one.one-index in
    let u = get_or uses k no_use in
    let lk : k < length uses = c.loop-one-test.true in
    let there : u.block < length c.loop-one.near = omega (arith, c.requires k no_use lk, c.loop-one.invariant.count) in
    record {
      count = length-set c.loop-one.near u.block c.first_found.result ∙ c.loop-one.invariant.count;
      all = λ p l.
          filled_more c.args.near.now c.loop-one.near c.args.train uses k p lk there (c.loop-one.invariant.all p l) c.first_found.result
          c.first_found.ensures;
    }
