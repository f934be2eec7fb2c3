-- Between which moments the uses of stairways start.
use Rattle.std.proofs.Common.{◌≡◌, ℕ, ◌+◌, ◌<◌, true, List, [], ◌∷◌, ◌++◌, length, get_or, take, sym, ap, ◌∙◌, subst, inl, inr, arith}
use Rattle.std.specs.Prelude.{ℤ, pos, ◌<ℤ◌, ◌≤ℤ◌, int_lt, int_le, ◌||◌}
use Rattle.std.proofs.lemmas.Int.{ints}
use Rattle.std.proofs.Math.ListN.{get_or-append}
use Rattle.std.proofs.Math.Seq.{get_or-append_seam}
use Rattle.std.proofs.lemmas.Bool.{cases_Bool, cases_lt}
use Rattle.std.proofs.lemmas.List.{get_or_default, get_or-take, length-append, length-take-le}
use Rattle.rail_model.specs.declared.items.Section.{Section}
use Rattle.rail_model.specs.declared.stair.Use.{Use}
use Rattle.rail_model.specs.declared.stair.Stair.{Stair}
use Rattle.section_cut.specs.declared.all_stairways.Starts.{Starts}
use Rattle.rail_model.specs.Conflict.{no_stair}
use Rattle.section_cut.specs.Starts.{StartsBetween, AreStartsOf, StartsOutside}
use Rattle.line_tables.proofs.Leads.{all_more}

-- one use more
within : (a b c d s : ℤ) → a ≤ℤ b → b ≤ℤ s → s ≤ℤ c → c ≤ℤ d → (a ≤ℤ s) × (s ≤ℤ d)
within a b c d s p q r t = (omega (arith, ints), omega (arith, ints))

pub between_more : (old new : Starts) (uses : List Use) (n : ℕ) (d : Use) → n < length uses
    → (new.first ≤ℤ old.first) × (new.first ≤ℤ (get_or uses n d).start) → (old.last ≤ℤ new.last) × ((get_or uses n d).start ≤ℤ new.last)
    → StartsBetween old (take n uses) → StartsBetween new (take (n + 1) uses)
between_more old new uses n d l first last before =
    let Within : Starts → Use → Type 0 = λ s v. (s.first ≤ℤ v.start) × (v.start ≤ℤ s.last) in
    all_more (Within old) (Within new) uses n d l (λ v has. within new.first old.first old.last new.last v.start first.0 has.0 has.1 last.0)
    (first.1, last.1) before

-- the test tells that uses between these moments start outside a section's window
before_window : (from last s : ℤ) → int_lt last from ≡ true → s ≤ℤ last → s <ℤ from
before_window from last s test most = grind (arith, ints)

after_window : (to first s : ℤ) → int_le to first ≡ true → first ≤ℤ s → to ≤ℤ s
after_window to first s test least = grind (arith, ints)

pub starts_outside : (starts : Starts) (section : Section) (uses : List Use) → StartsBetween starts uses
    → (int_lt starts.last (pos section.from_s) || int_le (pos section.to_s) starts.first) ≡ true → StartsOutside section uses
starts_outside starts section uses between test = elim (cases_Bool (int_lt starts.last (pos section.from_s))) [
  | inl early ↦ inl (λ k d below. before_window (pos section.from_s) starts.last _ early (between k d below).1)
  | inr later ↦ inr (λ k d below. after_window (pos section.to_s) starts.first _ (rw later at test) (between k d below).0)
]

-- one stairway more
at_end : (starts : List Starts) (s d : Starts) (n k : ℕ) → length starts ≡ n → k ≡ n → get_or (starts ++ s ∷ []) k d ≡ s
at_end starts s d n k count same = ap (λ j. get_or (starts ++ s ∷ []) j d) (same ∙ sym count) ∙ get_or-append_seam starts s [] d

pub starts_more : (stairs : List Stair) (starts new : List Starts) (n : ℕ) (stair : Stair) (s : Starts) → n < length stairs → stair ≡ get_or stairs n stair
    → StartsBetween s stair.uses → new ≡ starts ++ s ∷ [] → AreStartsOf (take n stairs) starts → AreStartsOf (take (n + 1) stairs) new
starts_more stairs starts new n stair s l is between grown before =
    let count : length starts ≡ n = before.count ∙ length-take-le n stairs (omega (arith, l)) in
    record {
      count = ap length grown ∙ length-append starts (s ∷ []) ∙ omega (arith, count, length-take-le (n + 1) stairs (omega (arith, l)));
      each = λ k d below.
          let within : k < n + 1 = omega (arith, below, length-take-le (n + 1) stairs (omega (arith, l))) in
          let there : get_or (take (n + 1) stairs) k no_stair ≡ get_or stairs k no_stair = get_or-take (n + 1) stairs k no_stair within in
          elim (cases_lt k n) [
            | inl less ↦
                let own = before.each k d (omega (arith, less, length-take-le n stairs (omega (arith, l)))) in
                subst (λ (u : Starts). StartsBetween u (get_or (take (n + 1) stairs) k no_stair).uses)
                (sym (ap (λ all. get_or all k d) grown ∙ get_or-append starts (s ∷ []) d k (omega (arith, less, count))))
                (subst (λ (t : Stair). StartsBetween (get_or starts k d) t.uses) (get_or-take n stairs k no_stair less ∙ sym there) own)
            | inr last ↦
                let same : k ≡ n = omega (arith, last, within) in
                subst (λ (u : Starts). StartsBetween u (get_or (take (n + 1) stairs) k no_stair).uses)
                (sym (ap (λ all. get_or all k d) grown ∙ at_end starts s d n k count same))
                (subst (λ (t : Stair). StartsBetween s t.uses)
                (is ∙ get_or_default stairs n stair no_stair l ∙ ap (λ j. get_or stairs j no_stair) (sym same) ∙ sym there) between)
          ];
    }
