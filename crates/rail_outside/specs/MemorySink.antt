-- What a sink in memory holds, and what a write and a flush make of it.
use Rattle.std.specs.Prelude.{◌≡◌, ◌⊎◌, ◌↔◌, ◌+◌, ◌<◌, ◌≤◌, ◌++◌, ℕ, List, length, take, min, ⊤, Result, IsErr, IfOk, OnOk, OnErr, Contains}
use Rattle.rail_outside.specs.InCall.{raised, CountsFaults}
use Rattle.rail_outside.specs.declared.faults.Failed.{Failed}
use Rattle.rail_outside.specs.declared.memory_sink.MemorySink.{MemorySink}

-- the bytes written
abbrev pub sink_bytes : MemorySink → List ℕ
sink_bytes s = s.bytes.items

-- how many bytes there is room for, those written among them
abbrev pub sink_room : MemorySink → ℕ
sink_room s = s.room

-- the greatest number of bytes that one write takes
abbrev pub sink_piece : MemorySink → ℕ
sink_piece s = s.piece

-- the numbers of the calls that fail, from 1
abbrev pub sink_fails : MemorySink → List ℕ
sink_fails s = s.fails

-- how many writes and flushes there have been
abbrev pub sink_calls : MemorySink → ℕ
sink_calls s = s.calls

-- how many of them have failed
abbrev pub sink_faults : MemorySink → ℕ
sink_faults s = s.faults

-- how many of the bytes written are flushed
abbrev pub sink_flushed : MemorySink → ℕ
sink_flushed s = s.flushed

-- the sink is set as it was: its room, its piece and the calls that fail
pub record SameSetting (sink sink' : MemorySink) : Type 0 where
  pub room : sink_room sink' ≡ sink_room sink
  pub piece : sink_piece sink' ≡ sink_piece sink
  pub fails : sink_fails sink' ≡ sink_fails sink

-- a write from a piece
pub record IsWrite (sink sink' : MemorySink) (piece : List ℕ) (answer : Result ℕ Failed) : Type 0 where
  -- exactly the writes that are listed or find no room fail, and write nothing
  pub fails : IsErr answer ↔ (Contains (sink_fails sink) (sink_calls sink')
      ⊎ (sink_room sink < length (sink_bytes sink) + min (sink_piece sink) (length piece)))
  pub kept : OnErr answer (sink_bytes sink' ≡ sink_bytes sink)
  -- the others take a piece, or all where that is less
  pub count : IfOk answer (λ n. n ≡ min (sink_piece sink) (length piece))
  pub bytes : IfOk answer (λ n. sink_bytes sink' ≡ sink_bytes sink ++ take n piece)
  -- calls and faults are counted, and nothing else changes
  pub calls : sink_calls sink' ≡ raised (sink_calls sink)
  pub faults : CountsFaults answer (sink_faults sink) (sink_faults sink')
  pub later : sink_faults sink ≤ sink_faults sink'
  pub flushed : sink_flushed sink' ≡ sink_flushed sink
  pub setting : SameSetting sink sink'

-- a flush
pub record IsFlush (sink sink' : MemorySink) (answer : Result ⊤ Failed) : Type 0 where
  -- exactly the flushes that are listed fail, and flush nothing
  pub fails : IsErr answer ↔ Contains (sink_fails sink) (sink_calls sink')
  pub kept : OnErr answer (sink_flushed sink' ≡ sink_flushed sink)
  -- the others flush all bytes written
  pub flushed : OnOk answer (sink_flushed sink' ≡ length (sink_bytes sink'))
  -- calls and faults are counted, and nothing else changes
  pub calls : sink_calls sink' ≡ raised (sink_calls sink)
  pub faults : CountsFaults answer (sink_faults sink) (sink_faults sink')
  pub later : sink_faults sink ≤ sink_faults sink'
  pub bytes : sink_bytes sink' ≡ sink_bytes sink
  pub setting : SameSetting sink sink'
