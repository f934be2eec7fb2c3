use Rattle.std.proofs.Common.{◌≡◌, ◌+◌, ◌-◌, ◌^◌, min, length, take}
use Rattle.std.specs.Prelude.{sum_by}
use Rattle.plan_model.proofs.reading.raised_by_all.Given as goal

abbrev pub invariant-loop-row : goal.invariant-loop-row
invariant-loop-row l = l.count ≡ min (l.taken + sum_by (λ r. length r.uses) (take l.row-index l.rows)) (2 ^ 64 - 1)
