use Rattle.std.proofs.Common.{◌≡◌, ◌++◌, map, take}
use Rattle.row_text.specs.Lines.{cell_text}
use Rattle.row_text.proofs.line_row.push_cells.Given as goal

abbrev pub invariant-loop-cell : goal.invariant-loop-cell
invariant-loop-cell l = l.row ≡ l.initial.row ++ map (cell_text l.version) (take l.cell-index l.cells)
