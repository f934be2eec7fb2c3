-- The words so far are UTF-8.
use Rattle.std.proofs.Common.{All, take}
use Rattle.std.specs.Str.{IsUtf8}
use Rattle.rail_outside.proofs.memory_words.has_no_text.Given as goal

abbrev pub invariant-loop-word : goal.invariant-loop-word
invariant-loop-word l = All IsUtf8 (take l.word-index l.words)
