use Rattle.std.proofs.Common.{◌≡◌, ◌≤◌, length, arith}
use Rattle.row_text.specs.PlainRows.{HasCut, so_far}
use Rattle.row_text.proofs.PlainRows.{HasCut-end}
use Rattle.row_text.proofs.plain_rows.cut_text.Goals as goal

pub returns : goal.returns
returns c = λ whole.
    let text = c.args.text.now in
    let last : c.loop-i.i ≡ length text =
    omega (arith, c.loop-i-test.false, c.loop-i.auto.i, c.loop-i.auto.i-end, c.loop-at.invariant.within) in
    let has : HasCut text (so_far c.loop-i.cut) (length text) = rw last at c.loop-i.invariant in
    let le : length text ≤ length text = omega arith in
    HasCut-end text (so_far c.loop-i.cut) (so_far c.end_line.new.cut) (length text) le (c.in_ok-end_line.ensures text le has.start has.fits) has
