use Rattle.std.proofs.Common.{refl}
use Rattle.made_line.proofs.Written.{has_word}
use Rattle.made_line.proofs.input.write_line.Goals as goal

pub write_row-requires : goal.write_row-requires
write_row-requires c = rw c.in_ok-row.ensures.row (has_word _)

pub returns : goal.returns
returns c = rw (c.in_ok-write_row.ensures.ok, c.in_ok-row.ensures.row) refl
