use Rattle.std.proofs.Common.{◌++◌, ◌∷◌, [], ap, ◌∙◌}
use Rattle.row_text.specs.Lines.{row_in}
use Rattle.made_line.specs.Text.{line_of}
use Rattle.made_line.proofs.Written.{line_more}
use Rattle.made_line.proofs.input.write_tasks.Goals as goal

pub loop-task-preserved : goal.loop-task-preserved
loop-task-preserved c =
    line_more _ c.loop-task.sheet.rows _ line_of c.args.tasks.now c.loop-task.task-index c.task-item.result
    c.loop-task-test.true c.loop-task.invariant
    (c.in_ok-write_line.ensures
    ∙ ap (λ l. c.loop-task.sheet.rows ++ row_in 1 l ∷ []) (c.in_ok-line_of.ensures ∙ ap line_of c.task-item.is))
