use Rattle.answer_parts.specs.Rows.{ring_row}
use Rattle.row_text.proofs.Adds.{adds_one}
use Rattle.answer_parts.proofs.disorder.ring_row.Goals as goal

pub returns : goal.returns
returns c = adds_one c.args.sheet.now c.write.new.self (ring_row c.args.section.now c.args.links) c.write.result c.write.ensures.ok c.write.ensures.err
