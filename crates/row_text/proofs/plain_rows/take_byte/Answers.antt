use Rattle.row_text.specs.PlainRows.{so_far}
use Rattle.row_text.proofs.PlainRows.{HasCut-comma, HasCut-past}
use Rattle.row_text.proofs.plain_rows.take_byte.Goals as goal

pub returns-then-byte-gt44 : goal.returns-then-byte-gt44
returns-then-byte-gt44 c _ text there is has = HasCut-past text (so_far c.args.cut.now) c.args.i there (rw is c.if-byte-gt44.true) has

pub returns-then-byte-eq44 : goal.returns-then-byte-eq44
returns-then-byte-eq44 c _ text there is has =
    HasCut-comma text (so_far c.args.cut.now) (so_far c.end_field.new.cut) c.args.i there (rw is c.if-byte-eq44.true) c.in_ok-end_field.ensures has
