-- What a sink over a writer holds.
use Rattle.std.specs.Prelude.{ℕ, List}
use Rattle.rail_outside.specs.declared.to_writer.ToWriter.{ToWriter}

-- the writer
abbrev pub writer_of : {W : Type 0} → ToWriter W → W
writer_of s = s.writer

-- the bytes that its writes took so far
abbrev pub writer_taken : {W : Type 0} → ToWriter W → List ℕ
writer_taken s = s.taken.items

-- how many of them are flushed
abbrev pub writer_flushed : {W : Type 0} → ToWriter W → ℕ
writer_flushed s = s.taken.flushed

-- how many writes and flushes have failed
abbrev pub writer_faults : {W : Type 0} → ToWriter W → ℕ
writer_faults s = s.faults
