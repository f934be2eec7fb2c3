use Rattle.std.proofs.Common.{◌≡◌, ◌+◌, ◌≤◌, drop, length}
use Rattle.row_text.specs.Words.{time_in}
use Rattle.row_text.specs.Lines.{read_each}
use Rattle.row_text.proofs.Reading.{after}
use Rattle.row_text.proofs.lists.times_from.Given as goal

abbrev pub invariant-loop-i : goal.invariant-loop-i
invariant-loop-i l = record {
  count : length l.times.items + l.fn.from ≤ l.i;
  whole : after l.times.items (read_each (time_in l.version) (drop l.i l.row)) ≡ read_each (time_in l.version) (drop l.fn.from l.row);
}
