use Rattle.std.proofs.Common.{◌≡◌, ◌∙◌, ap, sym, get_or, rules, arith, to_z, of_z, w64}
use Rattle.std.specs.Prelude.{◌+ℤ◌}
use Rattle.std.proofs.lemmas.Int.{ints}
use Rattle.std.proofs.lemmas.List.Elements.{All-get_or}
use Rattle.cycle_time.specs.declared.demand.Demand.{Demand}
use Rattle.cycle_time.specs.Demands.{IsLight}
use Rattle.cycle_time.specs.Rings.{no_demand}
use Rattle.cycle_time.proofs.Allowed.{weights_more}
use Rattle.cycle_time.proofs.refusal.weights.Goals as goal

pub loop-k-preserved : goal.loop-k-preserved
loop-k-preserved c =
    let demands = c.args.demands.now in
    let k = c.loop-k.k in
    let so_far = to_z w64 c.loop-k.sum-bits in
    let same : to_z w64 (of_z w64 c.with_weight-sum.result) ≡ c.with_weight-sum.result = search rules in
    let sum : c.with_weight-sum.result ≡ so_far +ℤ (get_or demands k no_demand).weight = c.with_weight-sum.ensures in
    let light = All-get_or (λ (e : Demand). IsLight e.weight) demands k no_demand c.loop-k-test.true c.requires.light in
    let a = light.above in
    let b = light.below in
    let low = c.loop-k.invariant.1 in
    let high = c.loop-k.invariant.2 in (
      same ∙ sum ∙ ap (λ w. w +ℤ (get_or demands k no_demand).weight) c.loop-k.invariant.0 ∙ sym (weights_more demands k c.loop-k-test.true),
      omega (arith, ints, same, sum, a, low),
      omega (arith, ints, same, sum, b, high),
    )
