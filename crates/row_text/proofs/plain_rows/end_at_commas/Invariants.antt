use Rattle.std.proofs.Common.{◌≡◌, ◌+◌, ◌-◌, ◌≤◌, length, take}
use Rattle.row_text.specs.PlainRows.{HasCut, OnesAreCommas, so_far, with_fields}
use Rattle.row_text.proofs.Lanes.{Left}
use Rattle.row_text.proofs.plain_rows.end_at_commas.Given as goal

abbrev pub invariant-loop-rest : goal.invariant-loop-rest
invariant-loop-rest l = record {
  has : HasCut l.text (with_fields (so_far l.cut) (take l.count l.starts) l.start) (l.at + l.done);
  left : Left l.text l.at l.done l.rest;
  ones : OnesAreCommas l.text l.at l.rest;
  counted : l.count ≤ l.done;
  long : length l.starts ≡ 64;
}

abbrev pub decreases-loop-rest : goal.decreases-loop-rest
decreases-loop-rest l = 64 - l.done
