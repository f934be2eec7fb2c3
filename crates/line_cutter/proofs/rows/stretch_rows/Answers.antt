use Rattle.answer_parts.proofs.Added.{then_adds}
use Rattle.line_cutter.specs.Rows.{disorder_rows}
use Rattle.line_cutter.proofs.rows.stretch_rows.Goals as goal

pub returns : goal.returns
returns c =
    then_adds c.disorder_rows.new.sheet (disorder_rows c.args.section.now.name c.args.stretch.now.disorder)
    c.disorder_rows.result c.in_ok-stretch_row.ensures c.disorder_rows.ensures
