use Rattle.std.proofs.Math.Nat.{div-le_self}
use Rattle.occupancy_rate.proofs.Divided.{divided_is, is_reduced, divisor_positive}
use Rattle.occupancy_rate.proofs.fraction.Fraction.of.Goals as goal

pub nonzero_div-result : goal.nonzero_div-result
nonzero_div-result c = divisor_positive c.args.num c.args.den _ c.requires c.greatest_divisor-divisor.ensures

pub nonzero_div-result-2 : goal.nonzero_div-result-2
nonzero_div-result-2 c = divisor_positive c.args.num c.args.den _ c.requires c.greatest_divisor-divisor.ensures

pub invariant_of-result : goal.invariant_of-result
invariant_of-result c =
    let h = is_reduced c.args.num c.args.den _ c.requires c.greatest_divisor-divisor.ensures in (h.some, h.lowest)

pub returns-clause-value : goal.returns-clause-value
returns-clause-value c = divided_is c.args.num c.args.den _ c.greatest_divisor-divisor.ensures

pub returns-clause-reduced : goal.returns-clause-reduced
returns-clause-reduced c = is_reduced c.args.num c.args.den _ c.requires c.greatest_divisor-divisor.ensures

pub returns-clause-no_greater : goal.returns-clause-no_greater
returns-clause-no_greater c = div-le_self c.args.num c.greatest_divisor-divisor.result
