-- The copies so far.
use Rattle.std.proofs.Common.{◌≡◌, map, take}
use Rattle.std.specs.String.{string_bytes}
use Rattle.rail_outside.proofs.std_words.copy_of.Given as goal

abbrev pub invariant-loop-word : goal.invariant-loop-word
invariant-loop-word l = map string_bytes l.copied.items ≡ map string_bytes (take l.word-index l.words)
