use Rattle.std.proofs.Common.{◌≡◌, ◌-◌}
use Rattle.std.specs.List.{flat_map, range_with_len}
use Rattle.capacity_report.specs.Blockings.{rows_at}
use Rattle.capacity_report.proofs.stairs.text_of_part.Given as goal

abbrev pub invariant-loop-run : goal.invariant-loop-run
invariant-loop-run l = l.sheet.rows ≡ flat_map (rows_at l.names l.paths) (range_with_len l.part.first (l.run - l.part.first))
