-- What words in memory are.
use Rattle.std.specs.Prelude.{ℕ, List}
use Rattle.rail_outside.specs.declared.memory_words.MemoryWords.{MemoryWords}

-- the words
abbrev pub memory_words : MemoryWords → List (List ℕ)
memory_words w = w.words
