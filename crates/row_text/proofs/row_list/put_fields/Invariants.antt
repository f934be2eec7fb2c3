use Rattle.std.proofs.Common.{◌≡◌, ◌+◌, length, take, vec_len, vec_capacity}
use Rattle.csv.specs.Records.{fields_of, last_end}
use Rattle.row_text.specs.Rows.{PutsRow}
use Rattle.row_text.proofs.row_list.put_fields.Given as goal

abbrev pub invariant-loop-i : goal.invariant-loop-i
invariant-loop-i l = record {
  put : PutsRow l.fn.taken l.taken (take l.i (fields_of l.row));
  start : l.start ≡ last_end 0 (take l.i l.row.ends);
  place : l.taken.used ≡ l.initial.taken.used + l.start + l.i;
  room : length l.taken.bytes.items ≡ length l.initial.taken.bytes.items;
  len : vec_len l.taken.cuts ≡ vec_len l.initial.taken.cuts + l.i;
  capacity : vec_capacity l.taken.cuts ≡ vec_capacity l.initial.taken.cuts;
}
