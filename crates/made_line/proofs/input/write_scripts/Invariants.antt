use Rattle.std.proofs.Common.{◌≡◌, ◌++◌, take}
use Rattle.made_line.specs.Text.{lines_of_scripts, rows_of}
use Rattle.made_line.proofs.input.write_scripts.Given as goal

abbrev pub invariant-loop-i : goal.invariant-loop-i
invariant-loop-i l = l.sheet.rows ≡ l.fn.sheet.rows ++ rows_of (lines_of_scripts (take l.i l.scripts))
