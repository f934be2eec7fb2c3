use Rattle.std.specs.Prelude.{◌-◌, length}
use Rattle.row_text.specs.Rows.{rows_of}
use Rattle.capacity_cmd.specs.InputSoFar.{HasTaken}
use Rattle.capacity_cmd.specs.TextRows.{AreLeft}
use Rattle.capacity_cmd.proofs.input.InputSoFar.take_pieces.Given as goal

-- the rows before a place are taken, and the others are left
abbrev pub invariant-loop-from : goal.invariant-loop-from
invariant-loop-from l = record {
  left : AreLeft l.text l.from l.before;
  taken : HasTaken l.planners l.version (rows_of l.text) l.self l.before;
}

abbrev pub decreases-loop-from : goal.decreases-loop-from
decreases-loop-from l = length l.text - l.from
