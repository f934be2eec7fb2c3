use Rattle.std.proofs.Common.{◌≡◌, take}
use Rattle.std.specs.Prelude.{count_by, nat_lt}
use Rattle.plan_model.specs.Members.{members}
use Rattle.delay_spread.specs.Spreading.{knock_on}
use Rattle.delay_spread.proofs.knock_on.late.Given as goal

abbrev pub invariant-loop-i : goal.invariant-loop-i
invariant-loop-i l =
    l.count ≡ count_by (λ k. nat_lt 0 (knock_on l.cut l.delays l.entries k)) (take l.i (members l.cut))
