use Rattle.std.proofs.Common.{◌≡◌, ◌++◌, ◌-◌, ◌*◌, ◌≤◌, drop, length, vec_len, vec_capacity}
use Rattle.row_text.specs.Lines.{legs_of}
use Rattle.row_text.proofs.lists.legs_of.Given as goal

abbrev pub invariant-loop-i : goal.invariant-loop-i
invariant-loop-i l = record {
  within : l.i ≤ length l.times;
  filled : 2 * vec_len l.legs ≡ l.i;
  room : length l.times ≤ 2 * vec_capacity l.legs;
  legs : l.legs.items ++ legs_of (drop l.i l.times) ≡ legs_of l.times;
}

abbrev pub decreases-loop-i : goal.decreases-loop-i
decreases-loop-i l = length l.times - l.i
