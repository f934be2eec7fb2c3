use Rattle.std.proofs.Common.{◌++◌, ◌∷◌, [], ap, ◌∙◌}
use Rattle.row_text.specs.declared.line.Line.TheVariants as line
use Rattle.row_text.specs.Lines.{row_in}
use Rattle.made_line.proofs.Written.{line_more}
use Rattle.made_line.proofs.input.write_edits.Goals as goal

pub loop-edit-preserved : goal.loop-edit-preserved
loop-edit-preserved c =
    line_more _ c.loop-edit.sheet.rows _ line.Edit c.args.edits.now c.loop-edit.edit-index c.edit-item.result
    c.loop-edit-test.true c.loop-edit.invariant
    (c.in_ok-write_line.ensures
    ∙ ap (λ e. c.loop-edit.sheet.rows ++ row_in 1 (line.Edit e) ∷ []) (c.in_ok-copy.ensures ∙ c.edit-item.is))
