use Rattle.std.proofs.Common.{◌+◌, take}
use Rattle.plan_model.specs.Members.{member}
use Rattle.cycle_time.specs.Laying.{AreLaidOn, with_uses}
use Rattle.cycle_time.proofs.laying.lay_train.Given as goal

abbrev pub invariant-loop-one : goal.invariant-loop-one
invariant-loop-one l =
    AreLaidOn l.cut (with_uses (take l.k l.order) (take (l.k + 1) l.order) (take l.one-index (member l.cut l.train).uses)) l.demands.items l.ends
