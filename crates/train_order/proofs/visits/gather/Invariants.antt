use Rattle.std.proofs.Common.{◌≡◌, ◌≤◌, length, take}
use Rattle.train_order.specs.Visits.{visits_upto}
use Rattle.train_order.proofs.visits.gather.Given as goal

-- the visits of the members so far stand in front
abbrev pub invariant-loop-i : goal.invariant-loop-i
invariant-loop-i l = record {
  room : length l.room ≡ length l.fn.room;
  count : l.count ≤ l.i;
  visits : take l.count l.room ≡ visits_upto l.cut l.i l.place;
}
