use Rattle.std.proofs.Common.{map}
use Rattle.row_text.proofs.Adds.{adds_stopped, first_added}
use Rattle.answer_parts.proofs.Added.{then_adds}
use Rattle.answer_parts.specs.Rows.{link_row}
use Rattle.answer_parts.proofs.disorder.ring_rows.Goals as goal

pub returns-in_err-ring_row : goal.returns-in_err-ring_row
returns-in_err-ring_row c =
    adds_stopped _ c.from_residual.result c.from_residual.ensures.1 (first_added (map link_row c.args.links.now) c.in_err-ring_row.ensures)

pub returns : goal.returns
returns c = then_adds c.link_rows.new.sheet (map link_row c.args.links.now) c.link_rows.result c.in_ok-ring_row.ensures c.link_rows.ensures
