use Rattle.row_text.proofs.Adds.{adds_one}
use Rattle.line_cutter.specs.Rows.{cut_row}
use Rattle.line_cutter.proofs.rows.cut_row.Goals as goal

pub returns : goal.returns
returns c = adds_one c.args.sheet.now c.write.new.self (cut_row c.args.section.now c.args.pieces) c.write.result c.write.ensures.ok c.write.ensures.err
