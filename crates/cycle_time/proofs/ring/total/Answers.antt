use Rattle.std.proofs.Common.{◌≡◌, get_or, rules, arith, to_z, of_z}
use Rattle.std.specs.Int.{w128}
use Rattle.std.specs.Prelude.{◌+ℤ◌}
use Rattle.std.proofs.lemmas.Int.{ints}
use Rattle.cycle_time.specs.Cycle.{no_step, weight}
use Rattle.cycle_time.proofs.Led.{total_more}
use Rattle.cycle_time.proofs.ring.total.Goals as goal

pub loop-k-preserved : goal.loop-k-preserved
loop-k-preserved c =
    let cut = c.args.cut.now in
    let ring = c.args.ring.now in
    let k = c.loop-k.k in
    let so_far = to_z w128 c.loop-k.sum-bits in
    let same : to_z w128 (of_z w128 c.with_weight-sum.result) ≡ c.with_weight-sum.result = search rules in
    let one : c.weight.result ≡ weight cut (get_or ring k no_step) = c.weight.ensures.is in
    let sum : c.with_weight-sum.result ≡ so_far +ℤ c.weight.result = search rules in
    let a = c.weight.ensures.light.above in
    let b = c.weight.ensures.light.below in
    let low = c.loop-k.invariant.1 in
    let high = c.loop-k.invariant.2 in
    let more = total_more cut ring k c.loop-k-test.true in
    let before = c.loop-k.invariant.0 in (
      omega (arith, ints, same, sum, one, before, more),
      omega (arith, ints, same, sum, a, low),
      omega (arith, ints, same, sum, b, high),
    )
