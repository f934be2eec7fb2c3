use Rattle.std.proofs.Common.{◌+◌, ◌-◌}
use Rattle.row_text.specs.PlainRows.{HasCut, so_far}
use Rattle.row_text.proofs.Lanes.{Left}
use Rattle.row_text.proofs.plain_rows.take_ends.Given as goal

abbrev pub invariant-loop-rest : goal.invariant-loop-rest
invariant-loop-rest l = record { has : HasCut l.text (so_far l.cut) (l.at + l.done); left : Left l.text l.at l.done l.rest }

abbrev pub decreases-loop-rest : goal.decreases-loop-rest
decreases-loop-rest l = 64 - l.done
