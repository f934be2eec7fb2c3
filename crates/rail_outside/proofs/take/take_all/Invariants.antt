-- So far no read has failed, and the bytes are what the source has given, at most one more than the limit.
use Rattle.std.proofs.Common.{◌≡◌, ◌+◌, ◌-◌, ◌≤◌, ◌++◌, length}
use Rattle.std.specs.Io.KnownBytes.{Consumes}
use Rattle.rail_outside.proofs.take.take_all.Given as goal

abbrev pub invariant-loop-piece : goal.invariant-loop-piece
invariant-loop-piece g l = record {
  few : length l.bytes.items ≤ l.limit + 1;
  given : Consumes (g.S.Source.left l.fn.source) (g.S.Source.left l.source) l.bytes.items;
  history : g.S.Source.given l.source ≡ g.S.Source.given l.fn.source ++ l.bytes.items;
  no_fault : g.S.Source.faults l.source ≡ g.S.Source.faults l.fn.source;
}

abbrev pub decreases-loop-piece : goal.decreases-loop-piece
decreases-loop-piece g l = l.limit + 1 - length l.bytes.items
