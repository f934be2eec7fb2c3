-- So far no call has failed, and what is sent of the text is written.
use Rattle.std.proofs.Common.{◌≡◌, ◌-◌, ◌≤◌, ◌++◌, length, take}
use Rattle.std.specs.Io.KnownBytes.{Appends}
use Rattle.rail_outside.proofs.send.write_all.Given as goal

abbrev pub invariant-loop-sent : goal.invariant-loop-sent
invariant-loop-sent g l = record {
  in_text : l.sent ≤ length l.text;
  prefix : Appends (g.K.Sink.written l.fn.sink) (g.K.Sink.written l.sink) (take l.sent l.text);
  taken : g.K.Sink.taken l.sink ≡ g.K.Sink.taken l.fn.sink ++ take l.sent l.text;
  no_fault : g.K.Sink.faults l.sink ≡ g.K.Sink.faults l.fn.sink;
}

abbrev pub decreases-loop-sent : goal.decreases-loop-sent
decreases-loop-sent g l = length l.text - l.sent
