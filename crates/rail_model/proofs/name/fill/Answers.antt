use Rattle.std.proofs.Common.{◌≡◌, ◌<◌, length, rules, arith}
use Rattle.rail_model.proofs.Filled.{printable_more, filled_more, filled_whole}
use Rattle.rail_model.proofs.name.fill.Goals as goal

pub loop-i-preserved : goal.loop-i-preserved
loop-i-preserved c =
    let bytes = c.args.bytes.now in
    let there = c.loop-i-test.true in
    record {
      printable = printable_more bytes c.loop-i.i there c.loop-i.invariant.printable (omega (arith, c.if-byte-lt32.false)) (omega (arith, c.if-byte-ge127.false));
      filled = filled_more bytes c.loop-i.room c.loop-i.i there (omega (arith, c.if-bytes-gt-NAME_BYTES.false)) c.loop-i.invariant.filled;
    }

pub returns : goal.returns
returns c = λ _.
    let some : 0 < length c.args.bytes.now = search rules in
    let end : c.loop-i.i ≡ length c.args.bytes.now = omega (arith, c.loop-i-test.false, c.loop-i.auto.i-end) in
    filled_whole c.args.bytes.now c.loop-i.room c.loop-i.i end some (omega (arith, c.if-bytes-gt-NAME_BYTES.false))
    c.loop-i.invariant.printable c.loop-i.invariant.filled
