use Rattle.std.proofs.Common.{◌≡◌, ℕ, false, take}
use Rattle.plan_model.specs.Members.{is_among}
use Rattle.plan_model.specs.Schedule.{entry_at}
use Rattle.train_placing.specs.Placing.{ArePlaced}
use Rattle.train_placing.proofs.placing.place_each.Given as goal

-- the first trains of the order are placed; the others have their floors for entries
abbrev pub invariant-loop-train : goal.invariant-loop-train
invariant-loop-train l = record {
  placed : ArePlaced l.cut (entry_at l.initial.entries) (take l.train-index l.order) l.entries l.ties l.last;
  floors : (i : ℕ) → is_among (take l.train-index l.order) i ≡ false
      → entry_at l.entries i ≡ entry_at l.initial.entries i;
}
