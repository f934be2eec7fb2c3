-- What the words of the process are.
use Rattle.std.specs.Prelude.{◌≡◌, ◌++◌, ℕ, List, map, drop, Option, None, Some, Result, Ok, Err, IsErrOf}
use Rattle.std.specs.Global.{Vec}
use Rattle.std.specs.String.{string_bytes}
use Rattle.rail_outside.specs.declared.std_words.StdWords.{StdWords}
use Rattle.rail_outside.specs.declared.words.NoWords.TheVariants.{NotText}

-- all that an iterator gives until none is to come, in order
abbrev pub AreAllOf : {I X : Type 0} → (I → List X) → (I → ℕ) → I → List X → Type 0
AreAllOf items count iter all = (end : _) × (count end ≡ 0) × (items iter ≡ all ++ items end)

-- the bytes of each word after the program's name, where there are words
abbrev pub bytes_of_words : {X E : Type 0} → (X → List ℕ) → Result (Vec X) E → Option (List (List ℕ))
bytes_of_words bytes (Ok words) = Some (map bytes (drop 1 words.items))
bytes_of_words bytes (Err why) = None

-- the words
abbrev pub std_words : StdWords → Option (List (List ℕ))
std_words w = bytes_of_words string_bytes w.words

-- there are none, and for another reason than want of memory
abbrev pub AreRefused : StdWords → Type 0
AreRefused w = IsErrOf w.words NotText
