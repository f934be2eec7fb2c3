use Rattle.answer_parts.specs.Rows.{link_row}
use Rattle.row_text.proofs.Adds.{adds_one}
use Rattle.answer_parts.proofs.links.link_row.Goals as goal

pub returns : goal.returns
returns c = adds_one c.args.sheet.now c.write.new.self (link_row c.args.link.now) c.write.result c.write.ensures.ok c.write.ensures.err
