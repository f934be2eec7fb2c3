use Rattle.std.proofs.Common.{◌≡◌, ◌++◌, map, take}
use Rattle.row_text.specs.declared.line.Line.TheVariants as line
use Rattle.made_line.specs.Text.{rows_of}
use Rattle.made_line.proofs.input.write_edits.Given as goal

abbrev pub invariant-loop-edit : goal.invariant-loop-edit
invariant-loop-edit l = l.sheet.rows ≡ l.fn.sheet.rows ++ rows_of (map line.Edit (take l.edit-index l.edits))
