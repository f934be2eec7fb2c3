-- Which word a field is, by what it begins with.
use Rattle.std.proofs.Common.{◌≡◌, ℕ, Bool, true, false, List, [], ◌∷◌, ◌++◌, length, take, drop, map, Option, Some, None, option_map, codes, refl, sym, ap, ◌∙◌, inl, inr, nat_eq}
use Rattle.std.specs.List.{find}
use Rattle.std.proofs.lemmas.List.Folds.{find-append}
use Rattle.std.proofs.lemmas.Bool.{cases_Bool, false≢true}
use Rattle.std.proofs.lemmas.List.{take-append-drop}
use Rattle.std.proofs.Math.Seq.{take-append_seam}
use Rattle.std.proofs.lemmas.Slice.Eq.{bytes_eq-Decides}
use Rattle.std.specs.Cmp.Lexicographic.{pointwise}
use Rattle.rail_model.specs.Name.{is_same}
use Rattle.row_text.specs.declared.word.Word.{Word}
use Rattle.row_text.specs.declared.word.Word.TheVariants as word
use Rattle.std.specs.Option.{option_or}
use Rattle.rail_model.specs.declared.edit.Kind.{Kind}
use Rattle.row_text.specs.Words.{kind_text, kinds, word_text, word_of}
use Rattle.rail_model.proofs.Lists.{find-map}

find-none : {X : Type 0} (test : X → Bool) (xs : List X) → ((x : X) → test x ≡ false) → find test xs ≡ None
find-none test [] none = refl
find-none test (x ∷ xs) none = rw (none x) (find-none test xs none)

-- the kind of which a field is the word
abbrev pub kind_of : List ℕ → Option Kind
kind_of field = find (λ k. is_same field (kind_text k)) kinds

-- a field after a prefix that it begins with
pub after_prefix : (field prefix rest : List ℕ) → pointwise nat_eq (take (length prefix) field) prefix ≡ true → rest ≡ drop (length prefix) field → field ≡ prefix ++ rest
after_prefix field prefix rest starts is =
    let begins = (bytes_eq-Decides (take (length prefix) field) prefix).0 starts in
    sym (take-append-drop (length prefix) field) ∙ rw (begins, is) refl

-- a field that doesn't begin with a prefix is none of the words with it
unprefixed : (field prefix rest : List ℕ) → pointwise nat_eq (take (length prefix) field) prefix ≡ false → is_same field (prefix ++ rest) ≡ false
unprefixed field prefix rest starts = elim (cases_Bool (is_same field (prefix ++ rest))) [
  | inl same ↦
      let is : field ≡ prefix ++ rest = (bytes_eq-Decides field (prefix ++ rest)).0 same in
      let begins : take (length prefix) field ≡ prefix = ap (take (length prefix)) is ∙ take-append_seam prefix rest in
      absurd (false≢true (sym starts ∙ (bytes_eq-Decides (take (length prefix) field) prefix).1 begins))
  | inr other ↦ other
]

-- a word with a prefix is that of a kind after it
pub word_of-change : (rest : List ℕ) → word_of (codes "change-" ++ rest) ≡ option_map word.Change (kind_of rest)
unfolding word_of
word_of-change rest = find-map word.Change (λ w. is_same (codes "change-" ++ rest) (word_text w)) kinds

pub word_of-drop : (rest : List ℕ) → word_of (codes "drop-" ++ rest) ≡ option_map word.Drop (kind_of rest)
unfolding word_of
word_of-drop rest = find-map word.Drop (λ w. is_same (codes "drop-" ++ rest) (word_text w)) kinds

-- every other word, but for two, is that of a kind
pub word_of-kind : (field : List ℕ) → pointwise nat_eq (take 7 field) (codes "change-") ≡ false → pointwise nat_eq (take 5 field) (codes "drop-") ≡ false
    → is_same field (codes "ask") ≡ false → is_same field (codes "planner") ≡ false → word_of field ≡ option_map word.Put (kind_of field)
unfolding word_of
word_of-kind field no_change no_drop no_ask no_planner =
    let test : Word → Bool = λ w. is_same field (word_text w) in
    let changes : find test (map word.Change kinds) ≡ None =
    find-map word.Change test kinds ∙ ap (option_map word.Change) (find-none (λ k. test (word.Change k)) kinds (λ k. unprefixed field (codes "change-") (kind_text k) no_change)) in
    let drops : find test (map word.Drop kinds) ≡ None =
    find-map word.Drop test kinds ∙ ap (option_map word.Drop) (find-none (λ k. test (word.Drop k)) kinds (λ k. unprefixed field (codes "drop-") (kind_text k) no_drop)) in
    let rest : find test (word.Ask ∷ word.Planner ∷ []) ≡ None = rw (no_ask, no_planner) refl in
    let puts : find test (map word.Put kinds) ≡ option_map word.Put (kind_of field) = find-map word.Put test kinds in
    find-append test (map word.Put kinds ++ map word.Change kinds ++ map word.Drop kinds) (word.Ask ∷ word.Planner ∷ [])
    ∙ ap (λ x. option_or x (find test (word.Ask ∷ word.Planner ∷ []))) (find-append test (map word.Put kinds ++ map word.Change kinds) (map word.Drop kinds))
    ∙ ap (λ x. option_or (option_or x (find test (map word.Drop kinds))) (find test (word.Ask ∷ word.Planner ∷ []))) (find-append test (map word.Put kinds) (map word.Change kinds))
    ∙ rw (changes, drops, rest, puts) (only (option_map word.Put (kind_of field)))
  where
    only : {X : Type 0} (x : Option X) → option_or (option_or (option_or x None) None) None ≡ x
    only None = refl
    only (Some y) = refl

-- the words of no kind
pub word_of-ask : word_of (codes "ask") ≡ Some word.Ask
unfolding word_of
word_of-ask = refl

pub word_of-planner : word_of (codes "planner") ≡ Some word.Planner
unfolding word_of
word_of-planner = refl
