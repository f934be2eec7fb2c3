use Rattle.std.proofs.Common.{◌++◌, map, ap, ◌∙◌, arith}
use Rattle.made_line.specs.Text.{line_of, rows_of}
use Rattle.made_line.proofs.Written.{script_more}
use Rattle.made_line.proofs.input.write_scripts.Goals as goal

pub loop-i-preserved : goal.loop-i-preserved
loop-i-preserved c =
    script_more _ c.loop-i.sheet.rows c.write_line.new.sheet.rows _ c.args.scripts.now c.loop-i.i
    (omega (arith, c.loop-i-test.true, c.len-i-end.ensures)) c.loop-i.invariant c.in_ok-write_line.ensures
    (c.in_ok-write_tasks.ensures
    ∙ ap (λ tasks. c.write_line.new.sheet.rows ++ rows_of (map line_of tasks)) c.script.ensures)
