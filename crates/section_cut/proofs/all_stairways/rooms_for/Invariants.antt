use Rattle.std.proofs.Common.{◌≡◌, length, map}
use Rattle.std.specs.Prelude.{All}
use Rattle.std.specs.List.{range_with_len}
use Rattle.section_cut.specs.Rooms.{IsRoomFor}
use Rattle.section_cut.proofs.all_stairways.rooms_for.Given as goal

-- rooms for the runs so far
abbrev pub invariant-loop-run : goal.invariant-loop-run
invariant-loop-run l = record {
  numbers : map (λ r. r.run) l.rooms.items ≡ range_with_len 0 l.run;
  each : All (IsRoomFor (length l.tables.runs)) l.rooms.items;
}
