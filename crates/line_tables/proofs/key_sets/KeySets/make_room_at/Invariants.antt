use Rattle.std.proofs.Common.{take}
use Rattle.line_tables.specs.RouteSets.{SameSets, HasRoomAt}
use Rattle.line_tables.proofs.key_sets.KeySets.make_room_at.Given as goal

abbrev pub invariant-loop-at : goal.invariant-loop-at
invariant-loop-at l = record {
  same : SameSets l.initial.self l.self;
  room : HasRoomAt (λ q. q) (take l.at-index l.places) l.key l.self;
}
