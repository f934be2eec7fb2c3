use Rattle.std.proofs.Common.{◌≡◌, ◌+◌, ◌-◌, ◌*◌, ◌≤◌, drop, length, vec_len, vec_capacity}
use Rattle.row_text.specs.Lines.{legs_in}
use Rattle.row_text.proofs.Reading.{after}
use Rattle.row_text.proofs.lists.legs_from.Given as goal

abbrev pub invariant-loop-i : goal.invariant-loop-i
invariant-loop-i l = record {
  within : l.i ≤ length l.row;
  filled : 2 * vec_len l.legs + l.fn.from ≡ l.i;
  room : length l.row ≤ 2 * vec_capacity l.legs + l.fn.from;
  few : length l.legs.items ≤ length l.row;
  whole : after l.legs.items (legs_in 1 0 (drop l.i l.row)) ≡ legs_in 1 0 (drop l.fn.from l.row);
}

abbrev pub decreases-loop-i : goal.decreases-loop-i
decreases-loop-i l = length l.row - l.i
