-- The order of names: of two names one is before the other, or they are the same.
use Rattle.std.proofs.Common.{◌≡◌, ◌⊎◌, ℕ, ◌<◌, true, false, List, length, get_or, refl, sym, ap, ◌∙◌, subst, inl, inr}
use Rattle.std.specs.Cmp.Lexicographic.{slice_cmp}
use Rattle.std.specs.Ordering.{nat_cmp, is_lt, is_eq, ordering_reverse}
use Rattle.std.specs.declared.cmp.Ordering.{Ordering}
use Rattle.std.specs.declared.cmp.Ordering.TheVariants.{Less, Equal, Greater}
use Rattle.std.proofs.lemmas.Bool.{cases_order, both_ways, false_from_ne_true}
use Rattle.std.proofs.lemmas.Cmp.{nat_list_cmp_total, nat_list_eq_equiv, tied_itself}
use Rattle.std.proofs.lemmas.Map.Text.{is_eq-slice_cmp}
use Rattle.std.proofs.lemmas.Slice.Eq.{bytes_eq-Decides}
use Rattle.rail_model.specs.Name.{IsBefore, is_before, is_same, NamesRise}

pub same_name : (a b : List ℕ) → is_same a b ≡ true → a ≡ b
same_name a b e = (bytes_eq-Decides a b).0 e

pub is_same-from : (a b : List ℕ) → a ≡ b → is_same a b ≡ true
is_same-from a b e = (bytes_eq-Decides a b).1 e

pub is_same-sym : (a b : List ℕ) → is_same a b ≡ is_same b a
is_same-sym a b = nat_list_eq_equiv.symm a b

pub is_before-from : (a b : List ℕ) → IsBefore a b → is_before a b ≡ true
is_before-from a b h = ap is_lt h

pub IsBefore-flip : (a b : List ℕ) → slice_cmp nat_cmp a b ≡ Greater → IsBefore b a
IsBefore-flip a b h = nat_list_cmp_total.antisymm b a ∙ ap ordering_reverse h

-- a name isn't before one that is before it
pub is_before-back : (a b : List ℕ) → IsBefore a b → is_before b a ≡ false
is_before-back a b h = ap is_lt (nat_list_cmp_total.antisymm b a ∙ ap ordering_reverse h)

pub is_same-before : (a b : List ℕ) → IsBefore a b → is_same a b ≡ false
is_same-before a b h = sym (is_eq-slice_cmp a b) ∙ ap is_eq h

pub is_same-after : (a b : List ℕ) → IsBefore a b → is_same b a ≡ false
is_same-after a b h = is_same-sym b a ∙ is_same-before a b h

pub IsBefore-trans : (a b c : List ℕ) → IsBefore a b → IsBefore b c → IsBefore a c
IsBefore-trans a b c = nat_list_cmp_total.trans a b c

pub is_same-equal : (a b : List ℕ) → slice_cmp nat_cmp a b ≡ Equal → is_same a b ≡ true
is_same-equal a b h = sym (is_eq-slice_cmp a b) ∙ ap is_eq h

-- ---- the test of the order

less_from : (o : Ordering) → is_lt o ≡ true → o ≡ Less
less_from Less h = refl
less_from Equal h = absurd (cc)
less_from Greater h = absurd (cc)

pub IsBefore-from : (a b : List ℕ) → is_before a b ≡ true → IsBefore a b
IsBefore-from a b h = less_from (slice_cmp nat_cmp a b) h

pub is_before-itself : (a : List ℕ) → is_before a a ≡ false
is_before-itself a = ap is_lt (tied_itself nat_list_cmp_total a)

pub never_before_itself : (a : List ℕ) → IsBefore a a → ⊥
never_before_itself a h = both_ways (is_before a a) (is_before-itself a) (is_before-from a a h)

by_order : (a b : List ℕ) (o : Ordering) → slice_cmp nat_cmp a b ≡ o → is_lt o ≡ false
    → (a ≡ b) ⊎ IsBefore b a
by_order a b Less e h = absurd (cc)
by_order a b Equal e h = inl (same_name a b (is_same-equal a b e))
by_order a b Greater e h = inr (IsBefore-flip a b e)

-- a name that isn't before another is the same, or comes after it
pub same_or_after : (a b : List ℕ) → is_before a b ≡ false → (a ≡ b) ⊎ IsBefore b a
same_or_after a b h = by_order a b (slice_cmp nat_cmp a b) refl h

-- of two names of which neither comes before the other, both are the same
pub same_if_neither : (a b : List ℕ) → is_before a b ≡ false → is_before b a ≡ false → a ≡ b
same_if_neither a b p q =
    elim (same_or_after a b p) [ inl e ↦ e | inr h ↦ absurd (both_ways (is_before b a) q (is_before-from b a h)) ]

-- what is before a name is before one that isn't before that
pub is_before-through : (a b c : List ℕ) → is_before a b ≡ true → is_before c b ≡ false
    → is_before a c ≡ true
is_before-through a b c h n =
    elim (same_or_after c b n) [
      | inl e ↦ subst (λ x. is_before a x ≡ true) (sym e) h
      | inr l ↦ is_before-from a c (IsBefore-trans a b c (IsBefore-from a b h) l)
    ]

-- what isn't before a name isn't before one that is before it
pub not_before-through : (a b c : List ℕ) → is_before b c ≡ true → is_before a c ≡ false
    → is_before a b ≡ false
not_before-through a b c h n =
    false_from_ne_true (is_before a b) (λ l. both_ways (is_before a c) n
    (is_before-from a c (IsBefore-trans a b c (IsBefore-from a b l) (IsBefore-from b c h))))

-- what isn't before a name isn't before one that doesn't come after it
pub not_before-both : (a b c : List ℕ) → is_before a b ≡ false → is_before b c ≡ false
    → is_before a c ≡ false
not_before-both a b c p q =
    false_from_ne_true (is_before a c) (λ h. both_ways (is_before a b) p (is_before-through a c b h q))

-- two items whose names rise have two names
pub names_apart : {X : Type 0} (name : X → List ℕ) (items : List X) (none : X)
    → NamesRise name items → (i j : ℕ) → i < length items → j < length items → (i ≡ j → ⊥)
    → is_same (name (get_or items i none)) (name (get_or items j none)) ≡ false
names_apart name items none rise i j li lj differ =
    elim (cases_order i j) [
      | inl e ↦ absurd (differ e)
      | inr o ↦ elim o [
        | inl lt ↦ is_same-before (name (get_or items i none)) (name (get_or items j none)) (rise i j none lt lj)
        | inr gt ↦ is_same-after (name (get_or items j none)) (name (get_or items i none)) (rise j i none gt li)
      ]
    ]
