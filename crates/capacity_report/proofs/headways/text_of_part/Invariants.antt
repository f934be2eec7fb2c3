use Rattle.std.proofs.Common.{◌≡◌, ◌-◌}
use Rattle.std.specs.List.{flat_map, range_with_len}
use Rattle.capacity_report.specs.Rows.{rows_from}
use Rattle.capacity_report.proofs.headways.text_of_part.Given as goal

abbrev pub invariant-loop-i : goal.invariant-loop-i
invariant-loop-i l = l.sheet.rows ≡ flat_map (rows_from l.cut) (range_with_len l.part.first (l.i - l.part.first))
