use Rattle.std.proofs.Common.{length, take}
use Rattle.std.specs.Prelude.{All}
use Rattle.line_tables.specs.KeyCounts.{SameCounts, HasRoomFor}
use Rattle.line_tables.proofs.key_counts.KeyCounts.make_room.Given as goal

abbrev pub invariant-loop-key : goal.invariant-loop-key
invariant-loop-key l = record {
  same : SameCounts l.initial.self-inside.counts.items l.self-inside.counts.items;
  room : All (HasRoomFor l.self-inside.counts.items (length l.keys)) (take l.key-index l.keys);
}
