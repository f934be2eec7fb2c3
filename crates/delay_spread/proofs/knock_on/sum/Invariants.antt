use Rattle.std.proofs.Common.{◌≡◌, ◌*◌, ◌≤◌, take}
use Rattle.std.specs.Prelude.{◌^◌, sum_by}
use Rattle.plan_model.specs.Members.{members}
use Rattle.delay_spread.specs.Spreading.{knock_on}
use Rattle.delay_spread.proofs.knock_on.sum.Given as goal

abbrev pub invariant-loop-i : goal.invariant-loop-i
invariant-loop-i l = record {
  is : l.sum ≡ sum_by (knock_on l.cut l.delays l.entries) (take l.i (members l.cut));
  small : l.sum ≤ l.i * 2 ^ 51;
}
