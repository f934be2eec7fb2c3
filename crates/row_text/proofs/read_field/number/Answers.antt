use Rattle.std.proofs.Common.{ℕ, ◌<◌, ◌≤◌, ◌^◌, arith}
use Rattle.std.proofs.Math.Nat.{pow-le-pow_right}
use Rattle.row_text.proofs.read_field.number.Goals as goal

-- a number of up to eight digits leaves room for one more
eight_digits : (value i n : ℕ) → value < 10 ^ i → i < n → n ≤ 9 → value < 10 ^ 8
eight_digits value i n small lt le =
    let most = pow-le-pow_right {n = 10} (omega arith) {i = i} {j = 8} (omega arith) in
    omega (arith, most)

pub overflow_mul-value : goal.overflow_mul-value
overflow_mul-value c =
    let small = eight_digits c.loop-digit.value c.loop-digit.digit-index _ c.loop-digit.invariant.small c.loop-digit-test.true (omega arith) in
    omega (arith, small)

pub overflow_add-value : goal.overflow_add-value
overflow_add-value c =
    let small = eight_digits c.loop-digit.value c.loop-digit.digit-index _ c.loop-digit.invariant.small c.loop-digit-test.true (omega arith) in
    omega (arith, small, c.from.ensures)
