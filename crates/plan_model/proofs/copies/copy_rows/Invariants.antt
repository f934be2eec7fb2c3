use Rattle.std.proofs.Common.{◌≡◌, take}
use Rattle.plan_model.proofs.copies.copy_rows.Given as goal

abbrev pub invariant-loop-row : goal.invariant-loop-row
invariant-loop-row l = l.others ≡ take l.row-index l.rows
