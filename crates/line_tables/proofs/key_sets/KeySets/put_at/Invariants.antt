use Rattle.std.proofs.Common.{take}
use Rattle.line_tables.specs.RouteSets.{HasRoomAt, IsPutAt}
use Rattle.line_tables.proofs.key_sets.KeySets.put_at.Given as goal

abbrev pub invariant-loop-at : goal.invariant-loop-at
invariant-loop-at l = record {
  put : IsPutAt (λ q. q) (take l.at-index l.places) l.key l.initial.self l.self;
  room : HasRoomAt (λ q. q) l.places l.key l.self;
}
