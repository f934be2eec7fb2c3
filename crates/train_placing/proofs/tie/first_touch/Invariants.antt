use Rattle.std.proofs.Common.{◌≡◌, ◌<◌, take}
use Rattle.std.specs.Prelude.{None, fold, IfSome}
use Rattle.plan_model.specs.Members.{place_count}
use Rattle.train_placing.specs.Touch.{touch_with}
use Rattle.train_placing.proofs.tie.first_touch.Given as goal

-- the first touch of the first uses
abbrev pub invariant-loop-one : goal.invariant-loop-one
invariant-loop-one l = record {
  same : l.best ≡ fold (touch_with l.cut l.row.entry l.entry l.last) None (take l.one-index l.row.uses);
  place : IfSome l.best (λ t. t.place < place_count l.cut);
}
