use Rattle.std.proofs.Common.{◌≡◌, ◌++◌, take}
use Rattle.row_text.proofs.line_row.push_names.Given as goal

abbrev pub invariant-loop-name : goal.invariant-loop-name
invariant-loop-name l = l.row ≡ l.initial.row ++ take l.name-index l.names
