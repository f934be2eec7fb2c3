use Rattle.std.proofs.Common.{◌≡◌, ◌+◌, ◌≤◌, drop, length, vec_len, vec_capacity}
use Rattle.row_text.specs.Words.{name_in}
use Rattle.row_text.specs.Lines.{read_each}
use Rattle.row_text.proofs.Reading.{after}
use Rattle.row_text.proofs.lists.names_from.Given as goal

abbrev pub invariant-loop-i : goal.invariant-loop-i
invariant-loop-i l = record {
  count : length l.names.items + l.fn.from ≤ l.i;
  filled : vec_len l.names + l.fn.from ≤ l.i;
  room : length l.row ≤ vec_capacity l.names + l.fn.from;
  whole : after l.names.items (read_each name_in (drop l.i l.row)) ≡ read_each name_in (drop l.fn.from l.row);
}
