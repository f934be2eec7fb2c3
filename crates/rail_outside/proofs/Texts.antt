-- Words that are texts, and words that are told.
use Rattle.std.proofs.Common.{◌≡◌, ℕ, List, Option, None, Some, String, All, get_or, map, ap, sym, subst}
use Rattle.std.specs.Prelude.{IsSome}
use Rattle.std.specs.String.{string_bytes}
use Rattle.std.specs.Str.{IsUtf8}
use Rattle.std.proofs.lemmas.List.Elements.{All-map}
use Rattle.std.proofs.lemmas.Str.{IsUtf8-string_bytes}
use Rattle.rail_outside.specs.InCall.{AreWords, HasNoText}

-- where each is UTF-8, none isn't
pub all_text : (words : List (List ℕ)) → All IsUtf8 words → ¬ (HasNoText words)
all_text words all (word, (k, within, there), bad) = bad (subst IsUtf8 there (all k word within))

-- each of them is UTF-8
pub are_text : {Z : Type 0} (words : List (String Z)) → All IsUtf8 (map string_bytes words)
are_text words = All-map IsUtf8 string_bytes words (λ k d lt. IsUtf8-string_bytes (get_or words k d))

-- so none of their bytes isn't
pub none_no_text : {Z : Type 0} (words : List (String Z)) (bytes : List (List ℕ)) → map string_bytes words ≡ bytes → ¬ (HasNoText bytes)
none_no_text words bytes is = all_text bytes (subst (All IsUtf8) is (are_text words))

-- words that are told are all of them
pub told_whole : (told : Option (List (List ℕ))) (words : List (List ℕ)) → IsSome told → AreWords told words → told ≡ Some words
told_whole None words known are = absurd (cc)
told_whole (Some all) words known are = ap Some (sym are)
