-- So far no call has failed, and the pieces before this one are written.
use Rattle.std.proofs.Common.{◌≡◌, ◌++◌, take, flat_map}
use Rattle.std.specs.Io.KnownBytes.{Appends}
use Rattle.rail_outside.proofs.send.send_each.Given as goal

abbrev pub invariant-loop-piece : goal.invariant-loop-piece
invariant-loop-piece g l = record {
  written : Appends (g.K.Sink.written l.fn.sink) (g.K.Sink.written l.sink) (flat_map (λ piece. piece.items) (take l.piece-index l.pieces));
  taken : g.K.Sink.taken l.sink ≡ g.K.Sink.taken l.fn.sink ++ flat_map (λ piece. piece.items) (take l.piece-index l.pieces);
  no_fault : g.K.Sink.faults l.sink ≡ g.K.Sink.faults l.fn.sink;
}
