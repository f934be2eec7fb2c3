use Rattle.std.proofs.Common.{sym, arith}
use Rattle.row_text.proofs.Digits.{length-decimal-max}
use Rattle.row_text.proofs.put.digit_count.Goals as goal

pub returns-clause-count : goal.returns-clause-count
returns-clause-count c =
    let e = c.max.ensures in
    let power = c.ilog10.ensures in
    sym (length-decimal-max c.ilog10.result c.args.number (omega arith) (rw e at power.power_le) (rw e at power.next_power_gt))

pub returns-clause-most : goal.returns-clause-most
returns-clause-most c = omega (arith, c.ilog10.ensures.bound)
