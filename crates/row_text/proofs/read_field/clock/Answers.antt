use Rattle.std.proofs.Common.{◌<◌, ◌-◌, length, take, arith}
use Rattle.std.proofs.Math.Nat.{pow-le-pow_right}
use Rattle.std.proofs.lemmas.List.{length-take-le}
use Rattle.row_text.proofs.read_field.clock.Goals as goal

-- the hours have at most five digits
few_hours : (c : goal.Else-seconds-ge60) → c.in_ok-hours.hours < 100000
few_hours c =
    let size = length-take-le (length c.args.field.now - 6) c.args.field.now (omega arith) in
    let most = pow-le-pow_right {n = 10} (omega arith) {i = length (take (length c.args.field.now - 6) c.args.field.now)} {j = 5} (omega (arith, size)) in
    omega (arith, c.in_ok-hours.ensures.small, most)

pub overflow_mul-result : goal.overflow_mul-result
overflow_mul-result c = omega (arith, few_hours c)

pub overflow_add-result : goal.overflow_add-result
overflow_add-result c = omega (arith, few_hours c)

pub overflow_add-result-2 : goal.overflow_add-result-2
overflow_add-result-2 c = omega (arith, few_hours c)
