use Rattle.std.specs.Prelude.{◌+◌}
use Rattle.row_text.specs.Rows.{rows_of}
use Rattle.capacity_cmd.specs.InputSoFar.{HasTaken}
use Rattle.capacity_cmd.proofs.input.InputSoFar.take_rows.Given as goal

-- the rows so far are taken
abbrev pub invariant-loop-i : goal.invariant-loop-i
invariant-loop-i l = HasTaken l.planners l.version (rows_of l.piece.text.now) l.self (l.piece.before + l.i)
