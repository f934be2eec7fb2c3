use Rattle.std.proofs.Common.{◌-◌, ◌≤◌, length}
use Rattle.row_text.specs.PlainRows.{HasCut, so_far}
use Rattle.row_text.proofs.plain_rows.cut_text.Given as goal

abbrev pub invariant-loop-at : goal.invariant-loop-at
invariant-loop-at l = record { has : HasCut l.text (so_far l.cut) l.at; within : l.at ≤ length l.text }

abbrev pub decreases-loop-at : goal.decreases-loop-at
decreases-loop-at l = length l.text - l.at

abbrev pub invariant-loop-i : goal.invariant-loop-i
invariant-loop-i l = HasCut l.text (so_far l.cut) l.i
