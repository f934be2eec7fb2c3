use Rattle.std.proofs.Common.{◌+◌, decimal, arith}
use Rattle.row_text.proofs.Digits.{take-written}
use Rattle.row_text.proofs.put.put_many.Goals as goal

pub returns-clause-written : goal.returns-clause-written
returns-clause-written c =
    let count = c.digit_count.ensures in
    let digits = c.write_digits-start.ensures in
    take-written c.args.text.now c.write_digits-start.new.buf (decimal c.args.number) c.args.used c.write_digits-start.result (c.args.used + c.digit_count.result)
    (omega (arith, c.requires)) digits.start (omega (arith, count.count)) digits.before digits.written
