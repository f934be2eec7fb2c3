use Rattle.std.proofs.Common.{sym, ◌∙◌, ap, arith}
use Rattle.std.proofs.lemmas.Bool.Decides.{nat_tests}
use Rattle.row_text.specs.PlainRows.{ends_line, so_far}
use Rattle.row_text.proofs.PlainRows.{HasCut-byte, HasCut-line}
use Rattle.row_text.proofs.plain_rows.take_below_comma.Goals as goal

pub returns-then-ends_line : goal.returns-then-ends_line
returns-then-ends_line c = λ plain text there is has.
    HasCut-line text (so_far c.args.cut.now) (so_far c.end_line.new.cut) c.args.i there (ap ends_line is ∙ sym c.ends_line.ensures ∙ c.if-ends_line.true) (c.in_ok-end_line.ensures text (omega arith) has.start has.fits) has

pub returns : goal.returns
returns c = λ plain text there is has.
    HasCut-byte text (so_far c.args.cut.now) c.args.i there (λ quote. grind (arith, nat_tests)) (λ comma. omega (arith, c.requires.other)) (ap ends_line is ∙ sym c.ends_line.ensures ∙ c.if-ends_line.false) has
