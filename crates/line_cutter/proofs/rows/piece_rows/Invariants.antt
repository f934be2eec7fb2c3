use Rattle.std.proofs.Common.{map, take, length}
use Rattle.std.specs.List.{range_with_len}
use Rattle.row_text.specs.Adds.{AddsAll}
use Rattle.line_cutter.specs.Rows.{piece_row}
use Rattle.line_cutter.proofs.rows.piece_rows.Given as goal

abbrev pub invariant-loop-k : goal.invariant-loop-k
invariant-loop-k l =
    AddsAll l.fn.sheet l.sheet (map (piece_row l.section l.ends) (take l.k (range_with_len 0 (length l.ends))))
