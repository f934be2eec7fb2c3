use Rattle.plan_repair.specs.Renewed.{IsRenewed}
use Rattle.plan_repair.proofs.renewed.renewed_rows.Given as goal

abbrev pub invariant-loop-i : goal.invariant-loop-i
invariant-loop-i g l =
    IsRenewed l.fn.kept (g.R.Rows.shown l.fn.reading) l.i l.rows.items l.left.items l.origin.items (g.R.Rows.shown l.reading)
