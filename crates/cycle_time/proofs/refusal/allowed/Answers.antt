use Rattle.std.proofs.Common.{◌≡◌, ◌+◌, ◌<◌, ◌/◌, ◌%◌, sym, subst, rules, arith, to_z, of_z, w64}
use Rattle.std.specs.Prelude.{pos, nat_abs, min, ◌*ℤ◌, ◌-ℤ◌, ◌<ℤ◌}
use Rattle.std.proofs.lemmas.Int.{ints}
use Rattle.std.proofs.lemmas.Grind.{div_ceil_times}
use Rattle.cycle_time.specs.Rings.{weights}
use Rattle.cycle_time.proofs.Allowed.{not_less}
use Rattle.cycle_time.proofs.refusal.allowed.Goals as goal

pub returns-clause-more : goal.returns-clause-more
returns-clause-more c =
    let ring = c.args.ring.now in
    let a = nat_abs (to_z w64 (of_z w64 c.weights-sum.result)) in
    let b = c.laps.result in
    let same : to_z w64 (of_z w64 c.weights-sum.result) ≡ c.weights-sum.result = search rules in
    let w = c.weights-sum.ensures.is in
    let p = c.requires.positive in
    let is : weights ring ≡ pos a = omega (arith, ints, same, w, p) in
    let some : 0 < b = omega (arith, c.laps.ensures, c.requires.some) in
    let d = div_ceil_times a b some in
    let h = not_less b (a / b + min 1 (a % b)) a (weights ring) is (omega (arith, ints, is, p)) some d.0 d.1 in
    subst (λ n. (pos n *ℤ (pos c.div_ceil.result -ℤ pos 1)) <ℤ weights ring) c.laps.ensures
    (subst (λ n. (pos b *ℤ (pos n -ℤ pos 1)) <ℤ weights ring) (sym c.div_ceil.ensures) h)
