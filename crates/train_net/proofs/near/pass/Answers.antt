use Rattle.std.proofs.Common.{◌<◌, length, get_or, ◌∙◌, arith, length-set}
use Rattle.std.specs.Prelude.{Some}
use Rattle.plan_model.specs.Members.{no_use}
use Rattle.train_net.proofs.Walking.{passed_more}
use Rattle.train_net.proofs.near.pass.Goals as goal

pub loop-one-preserved : goal.loop-one-preserved
loop-one-preserved c =
    let uses = c.args.uses.now in
    let k = c.loop-one.one-index in
    let u = get_or uses k no_use in
    let lk : k < length uses = c.loop-one-test.true in
    let there : u.block < length c.loop-one.near = omega (arith, c.requires.there k no_use lk, c.loop-one.invariant.count) in
    record {
      count = length-set c.loop-one.near u.block (Some (record { train = c.args.train; one = u })) ∙ c.loop-one.invariant.count;
      all = λ p l.
          passed_more c.args.near.now c.loop-one.near c.args.train uses k p c.requires.differ lk there (c.loop-one.invariant.all p l);
    }
