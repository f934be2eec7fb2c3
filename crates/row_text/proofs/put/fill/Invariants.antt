use Rattle.std.proofs.Common.{◌≡◌, ◌-◌, ◌≤◌, length, take, vec_len, vec_capacity}
use Rattle.row_text.proofs.put.fill.Given as goal

abbrev pub invariant-loop-text : goal.invariant-loop-text
invariant-loop-text l = record {
  kept : take (length l.fn.text.items) l.text.items ≡ l.fn.text.items;
  grown : length l.fn.text.items ≤ length l.text.items;
  room : l.least ≤ vec_capacity l.text;
}

abbrev pub decreases-loop-text : goal.decreases-loop-text
decreases-loop-text l = l.least - vec_len l.text
