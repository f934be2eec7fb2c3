use Rattle.std.proofs.Common.{◌≡◌, take, drop, length}
use Rattle.plan_repair.specs.Renewed.{IsRenewed}
use Rattle.plan_repair.proofs.renewed.renewed_in_place.Given as goal

abbrev pub invariant-loop-i : goal.invariant-loop-i
invariant-loop-i g l = record {
  number : length l.origin.items ≡ l.i;
  count : length l.rows ≡ length l.initial.rows;
  renewed : IsRenewed l.initial.rows (g.R.Rows.shown l.initial.reading) l.i (take l.i l.rows) (drop l.i l.rows) l.origin.items
      (g.R.Rows.shown l.reading);
}
