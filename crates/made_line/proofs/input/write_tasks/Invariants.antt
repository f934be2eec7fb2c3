use Rattle.std.proofs.Common.{◌≡◌, ◌++◌, map, take}
use Rattle.made_line.specs.Text.{line_of, rows_of}
use Rattle.made_line.proofs.input.write_tasks.Given as goal

abbrev pub invariant-loop-task : goal.invariant-loop-task
invariant-loop-task l = l.sheet.rows ≡ l.fn.sheet.rows ++ rows_of (map line_of (take l.task-index l.tasks))
