-- The order by moment and member is that of precedence, since the names of members rise.
use Rattle.std.proofs.Common.{◌≡◌, ℕ, ◌<◌, Bool, true, false, ◌&&◌, ◌||◌, inl, inr, refl, sym, ap, subst, ◌∙◌, arith}
use Rattle.std.specs.Prelude.{ℤ, int_lt, nat_lt, ◌==◌}
use Rattle.std.specs.Cmp.{IsTotalOrder, IsStrictWeakOrder}
use Rattle.std.specs.Ordering.{int_eq, int_cmp, nat_cmp, is_lt, ordering_then}
use Rattle.std.proofs.lemmas.Bool.{cases_Bool, cases_order, lt-ltb, le-ltb, eq-eqb, ne_eqb, both_ways}
use Rattle.std.proofs.lemmas.Cmp.{nat_cmp_total, int_cmp_total, on_total, then_total, tied_itself}
use Rattle.std.proofs.lemmas.List.Sorted.{ranks_by}
use Rattle.rail_model.specs.Name.{is_before}
use Rattle.rail_model.proofs.NameOrder.{is_before-from, is_before-back, is_before-itself}
use Rattle.rail_model.proofs.Numbers.{same_if_neither_less}
use Rattle.plan_model.specs.declared.cut.Cut.{Cut}
use Rattle.plan_model.specs.Members.{member, member_count, no_member, comes_before}
use Rattle.plan_model.specs.Cut.{IsSoundCut}
use Rattle.train_order.specs.Visits.{key_cmp, is_earlier}

pub less_test : (i j : ℕ) → is_lt (nat_cmp i j) ≡ nat_lt i j
less_test i j =
    elim (cases_Bool (nat_lt i j)) [
      | inl e ↦ rw e refl
      | inr e ↦ rw e (elim (cases_Bool (i == j)) [ inl f ↦ rw f refl | inr f ↦ rw f refl ])
    ]

pub less : (i j : ℕ) → i < j → is_lt (nat_cmp i j) ≡ true
less i j l = let t = lt-ltb i j l in rw t refl

not_less : (i j : ℕ) → (i < j → ⊥) → is_lt (nat_cmp i j) ≡ false
not_less i j never =
    elim (cases_order i j) [
      | inl e ↦ let t = le-ltb i j (omega arith) in let u = eq-eqb i j e in rw (t, u) refl
      | inr d ↦ elim d [
        | inl l ↦ absurd (never l)
        | inr g ↦
            let t = le-ltb i j (omega arith) in
            let u = ne_eqb i j (λ (e : i ≡ j). omega arith) in
            rw (t, u) refl
      ]
    ]

-- ---- the order by moment and member

pub key_cmp_total : IsTotalOrder key_cmp
key_cmp_total = then_total (on_total (λ x. x.0) int_cmp_total) (on_total (λ x. x.1) nat_cmp_total)

pub weak : IsStrictWeakOrder is_earlier
weak = ranks_by key_cmp_total (λ x. x)

pub never_itself : (x : ℤ × ℕ) → is_earlier x x ≡ false
never_itself x = ap is_lt (tied_itself key_cmp_total x)

-- a moment no later than another and, where both are one, of a lesser member is earlier
pub earlier_from : (s t : ℤ) (i j : ℕ) → int_lt t s ≡ false → (s ≡ t → i < j) → is_earlier (s, i) (t, j) ≡ true
earlier_from s t i j k h =
    elim (cases_Bool (int_lt s t)) [
      | inl l ↦ rw l refl
      | inr g ↦ rw (g, k) (less i j (h (same_if_neither_less s t g k)))
    ]

-- of two moments of different members, the one that isn't later is earlier
pub not_later : (s t : ℤ) (i j : ℕ) → (i ≡ j → ⊥) → is_earlier (t, j) (s, i) ≡ false → is_earlier (s, i) (t, j) ≡ true
not_later s t i j ne h =
    elim (cases_Bool (int_lt s t)) [
      | inl l ↦ rw l refl
      | inr g ↦ elim (cases_Bool (int_lt t s)) [
        | inl l ↦ let back : is_earlier (t, j) (s, i) ≡ true = rw l refl in absurd (both_ways _ h back)
        | inr k ↦ elim (cases_order i j) [
          | inl e ↦ absurd (ne e)
          | inr d ↦ elim d [
            | inl l ↦ rw (g, k) (less i j l)
            | inr l ↦ let back : is_earlier (t, j) (s, i) ≡ true = rw (k, g) (less j i l) in absurd (both_ways _ h back)
          ]
        ]
      ]
    ]

-- its test
pub tested : (s t : ℤ) (i j : ℕ) → (int_lt s t || (int_eq s t && nat_lt i j)) ≡ is_earlier (s, i) (t, j)
tested s t i j =
    elim (cases_Bool (int_lt s t)) [
      | inl l ↦ rw l refl
      | inr g ↦ elim (cases_Bool (int_lt t s)) [
        | inl l ↦ rw (g, l) refl
        | inr h ↦ rw (g, h) (sym (less_test i j))
      ]
    ]

-- ---- it is that of precedence

module _ (cut : Cut) (sound : IsSoundCut cut) where
  pub names : (i j : ℕ) → i < member_count cut → j < member_count cut
      → is_before (member cut i).name (member cut j).name ≡ is_lt (nat_cmp i j)
  names i j li lj =
      elim (cases_order i j) [
        | inl e ↦
            subst (λ k. is_before (member cut i).name (member cut k).name ≡ is_lt (nat_cmp i k)) e
            (is_before-itself (member cut i).name ∙ sym (not_less i i (λ (l : i < i). omega arith)))
        | inr d ↦ elim d [
          | inl l ↦ is_before-from (member cut i).name (member cut j).name (sound.names_rise i j no_member l lj) ∙ sym (less i j l)
          | inr g ↦
              is_before-back (member cut j).name (member cut i).name (sound.names_rise j i no_member g li)
              ∙ sym (not_less i j (λ (l : i < j). omega arith))
        ]
      ]

  by_keys : (s t : ℤ) (i j : ℕ) (named : Bool) → named ≡ is_lt (nat_cmp i j)
      → (int_lt s t || (int_eq s t && named)) ≡ is_lt (ordering_then (int_cmp s t) (nat_cmp i j))
  by_keys s t i j named e =
      elim (cases_Bool (int_lt s t)) [
        | inl l ↦ rw l refl
        | inr g ↦ elim (cases_Bool (int_lt t s)) [
          | inl l ↦ rw (g, l) refl
          | inr h ↦ rw (g, h) e
        ]
      ]

  pub earlier_is : (s t : ℤ) (i j : ℕ) → i < member_count cut → j < member_count cut
      → comes_before s (member cut i).name t (member cut j).name
      ≡ is_earlier (s, i) (t, j)
  earlier_is s t i j li lj = by_keys s t i j (is_before (member cut i).name (member cut j).name) (names i j li lj)
