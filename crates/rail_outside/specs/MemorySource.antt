-- What a source in memory holds, and what a read makes of it.
use Rattle.std.specs.Prelude.{◌≡◌, ◌<◌, ◌≤◌, ◌↔◌, ◌++◌, ℕ, Bool, IsTrue, Ok, List, length, take, drop, min, Result, IsErr, IfOk, OnErr, Contains}
use Rattle.rail_outside.specs.InCall.{raised, CountsFaults}
use Rattle.rail_outside.specs.declared.faults.Failed.{Failed}
use Rattle.rail_outside.specs.declared.memory_source.MemorySource.{MemorySource}

-- the bytes that reads gave so far
abbrev pub source_given : MemorySource → List ℕ
source_given s = take s.place s.bytes

-- the bytes that no read has given yet
abbrev pub source_left : MemorySource → List ℕ
source_left s = drop s.place s.bytes

-- whether the last read gave no byte for a piece with room
abbrev pub source_ended : MemorySource → Bool
source_ended s = s.ended

-- the greatest number of bytes that one read gives
abbrev pub source_piece : MemorySource → ℕ
source_piece s = s.piece

-- the numbers of the reads that fail, from 1
abbrev pub source_fails : MemorySource → List ℕ
source_fails s = s.fails

-- how many reads there have been
abbrev pub source_reads : MemorySource → ℕ
source_reads s = s.reads

-- how many of them have failed
abbrev pub source_faults : MemorySource → ℕ
source_faults s = s.faults

-- a read into a piece, which held `piece` before and holds `piece'` after it
pub record IsRead (source source' : MemorySource) (piece piece' : List ℕ) (answer : Result ℕ Failed) : Type 0 where
  -- exactly the reads that are listed fail, and give nothing
  pub fails : IsErr answer ↔ Contains (source_fails source) (source_reads source')
  pub kept : OnErr answer (source_left source' ≡ source_left source)
  pub none_given : OnErr answer (source_given source' ≡ source_given source)
  pub piece_kept : OnErr answer (piece' ≡ piece)
  -- the others give as many bytes as a read may give, the piece has room for, and are left
  pub count : IfOk answer (λ n. n ≡ min (min (source_piece source) (length piece)) (length (source_left source)))
  pub given : IfOk answer (λ n. piece' ≡ take n (source_left source) ++ drop n piece)
  pub more : IfOk answer (λ n. source_given source' ≡ source_given source ++ take n (source_left source))
  pub left : IfOk answer (λ n. source_left source' ≡ drop n (source_left source))
  -- a read that gives none for a piece with room has found the end
  pub at_end : IsTrue (source_ended source') ↔ ((answer ≡ Ok 0) × (0 < length piece))
  -- reads and faults are counted, and nothing else changes
  pub reads : source_reads source' ≡ raised (source_reads source)
  pub faults : CountsFaults answer (source_faults source) (source_faults source')
  pub later : source_faults source ≤ source_faults source'
  pub same_piece : source_piece source' ≡ source_piece source
  pub same_fails : source_fails source' ≡ source_fails source
