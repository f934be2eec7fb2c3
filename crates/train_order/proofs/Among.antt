-- Whether a number is among some, and lists in which none stands twice.
use Rattle.std.proofs.Common.{◌≡◌, ℕ, zero, suc, ◌+◌, ◌<◌, ◌≤◌, Bool, true, false, ◌||◌, ◌==◌, List, [], ◌∷◌, ◌++◌, length, take, get_or, inl, inr, refl, sym, ap, subst, ◌∙◌, arith}
use Rattle.std.specs.Prelude.{filter}
use Rattle.std.specs.List.{range_with_len, list_any}
use Rattle.std.proofs.Math.Bool.{or_comm, or-false}
use Rattle.std.proofs.lemmas.Bool.{cases_Bool, or_cases, or_from, or_parts, or_left, eqb-true, eq-eqb, ne_eqb, both_ways, false_from_ne_true}
use Rattle.std.proofs.lemmas.List.{get_or-take, length-take-le}
use Rattle.std.proofs.lemmas.List.Folds.{list_any-append, list_any_at}
use Rattle.plan_model.proofs.MemberTests.{has-range, in_range, has-filter, filter-has}
use Rattle.train_order.specs.Sets.{holds}
use Rattle.train_order.specs.Taking.{is_among, IsDistinct}

-- ---- where it stands

-- a number stands at a place of a list
pub record StandsAt (some : List ℕ) (i : ℕ) : Type 0 where
  pub at : ℕ
  pub within : at < length some
  pub is : get_or some at 0 ≡ i

pub stands_at : (some : List ℕ) (i : ℕ) → is_among some i ≡ true → StandsAt some i
stands_at [] i h = absurd (cc)
stands_at (k ∷ some) i h =
    elim (or_cases (k == i) (is_among some i) h) [
      | inl e ↦ record { at = 0; within = omega arith; is = eqb-true k i e }
      | inr e ↦
          let r = stands_at some i e in
          record { at = suc r.at; within = omega (arith, r.within); is = r.is }
    ]

pub among_at : (some : List ℕ) (at i : ℕ) → at < length some → get_or some at 0 ≡ i → is_among some i ≡ true
among_at some at i l e = list_any_at (λ k. k == i) some at 0 l (eq-eqb _ i e)

pub among_first : (some : List ℕ) (n at i : ℕ) → n ≤ length some → at < n → get_or some at 0 ≡ i → is_among (take n some) i ≡ true
among_first some n at i l lt e = among_at (take n some) at i (omega (arith, length-take-le n some l)) (get_or-take n some at 0 lt ∙ e)

pub first_among : (some : List ℕ) (n i : ℕ) → n ≤ length some → is_among (take n some) i ≡ true
    → (at : ℕ) × (at < n) × (get_or some at 0 ≡ i)
first_among some n i l h =
    let s = stands_at (take n some) i h in
    let lt : s.at < n = omega (arith, s.within, length-take-le n some l) in
    (s.at, lt, sym (get_or-take n some s.at 0 lt) ∙ s.is)

pub among_more : (some : List ℕ) (n m i : ℕ) → n ≤ m → m ≤ length some → is_among (take n some) i ≡ true
    → is_among (take m some) i ≡ true
among_more some n m i le l h =
    let r = first_among some n i (omega arith) h in
    among_first some m r.0 i l (omega (arith, r.1)) r.2

-- ---- ranges

pub range_from : (a n i : ℕ) → is_among (range_with_len a n) i ≡ true → a ≤ i
range_from a zero i h = absurd (cc)
range_from a (suc n) i h =
    elim (or_cases (a == i) (is_among (range_with_len (a + 1) n) i) h) [
      | inl e ↦ omega (arith, eqb-true a i e)
      | inr e ↦ omega (arith, range_from (a + 1) n i e)
    ]

-- of the numbers below n, those that pass a test
pub among_passing : (test : ℕ → Bool) (n i : ℕ) → i < n → test i ≡ true → is_among (filter test (range_with_len 0 n)) i ≡ true
among_passing test n i l e = has-filter test (range_with_len 0 n) i (has-range n i l) e

pub passing_among : (test : ℕ → Bool) (n i : ℕ) → is_among (filter test (range_with_len 0 n)) i ≡ true → (i < n) × (test i ≡ true)
passing_among test n i h =
    let r = filter-has test (range_with_len 0 n) i h in
    (omega (arith, in_range 0 n i r.0), r.1)

-- ---- lists in which none stands twice

pub distinct_both : (some more : List ℕ) → IsDistinct some → IsDistinct more
    → ((i : ℕ) → is_among more i ≡ true → is_among some i ≡ false) → IsDistinct (some ++ more)
distinct_both [] more d e apart = e
distinct_both (k ∷ some) more d e apart =
    let itself : (k == k) ≡ true = eq-eqb k k refl in
    let other : is_among more k ≡ false =
    false_from_ne_true (is_among more k) (λ h. both_ways _ (apart k h) (or_left (k == k) (is_among some k) itself)) in (
      list_any-append (λ i. i == k) some more ∙ or_from (is_among some k) (is_among more k) d.0 other,
      distinct_both some more d.1 e (λ i h. (or_parts (k == i) (is_among some i) (apart i h)).1),
    )

-- with one more at the end
pub not_at_end : (some : List ℕ) (j k : ℕ) → is_among some k ≡ false → (j == k) ≡ false → is_among (some ++ j ∷ []) k ≡ false
not_at_end some j k e f =
    list_any-append (λ i. i == k) some (j ∷ []) ∙ or_from (is_among some k) ((j == k) || false) e (or-false (j == k) ∙ f)

pub end_parts : (some : List ℕ) (j k : ℕ) → is_among (some ++ j ∷ []) k ≡ false → (is_among some k ≡ false) × ((j == k) ≡ false)
end_parts some j k h =
    let parts = or_parts (is_among some k) ((j == k) || false) (sym (list_any-append (λ i. i == k) some (j ∷ [])) ∙ h) in
    (parts.0, sym (or-false (j == k)) ∙ parts.1)

pub distinct_end : (some : List ℕ) (j : ℕ) → IsDistinct (some ++ j ∷ []) → IsDistinct some × (is_among some j ≡ false)
distinct_end [] j d = (tt, refl)
distinct_end (i ∷ some) j d =
    let parts = end_parts some j i d.0 in
    let rest = distinct_end some j d.1 in (
      (parts.0, rest.0),
      or_from (i == j) (is_among some j) (ne_eqb i j (λ e. both_ways _ parts.1 (eq-eqb j i (sym e)))) rest.1,
    )

pub distinct_more : (some : List ℕ) (j : ℕ) → IsDistinct some → is_among some j ≡ false → IsDistinct (some ++ j ∷ [])
distinct_more some j d fresh =
    distinct_both some (j ∷ []) d (refl, tt) (λ i h. elim (or_cases (j == i) false h) [
      | inl e ↦ subst (λ m. is_among some m ≡ false) (eqb-true j i e) fresh
      | inr e ↦ absurd (cc)
    ])

-- a set of some takes it in, where each has a number
pub among_put : {X : Type 0} (of : X → ℕ) (words after : List ℕ) (some : List X) (x : X)
    → ((k : ℕ) → holds words k ≡ list_any (λ y. of y == k) some)
    → ((k : ℕ) → holds after k ≡ ((of x == k) || holds words k)) → (k : ℕ) → holds after k ≡ list_any (λ y. of y == k) (some ++ x ∷ [])
among_put of words after some x same put k =
    let there = list_any (λ y. of y == k) some in
    put k ∙ ap (λ b. (of x == k) || b) (same k) ∙ or_comm (of x == k) there
    ∙ ap (λ b. there || b) (sym (or-false (of x == k))) ∙ sym (list_any-append (λ y. of y == k) some (x ∷ []))

pub distinct_passing : (test : ℕ → Bool) (a n : ℕ) → IsDistinct (filter test (range_with_len a n))
distinct_passing test a zero = tt
distinct_passing test a (suc n) =
    elim (cases_Bool (test a)) [
      | inl e ↦ rw e (
        false_from_ne_true (is_among (filter test (range_with_len (a + 1) n)) a) (λ h.
            omega (arith, range_from (a + 1) n a (filter-has test (range_with_len (a + 1) n) a h).0)),
        distinct_passing test (a + 1) n,
      )
      | inr e ↦ rw e (distinct_passing test (a + 1) n)
    ]

-- what stands at a place isn't among those before it
pub not_before : (some : List ℕ) (k : ℕ) → IsDistinct some → k < length some → is_among (take k some) (get_or some k 0) ≡ false
not_before [] k d l = absurd (omega (arith, l))
not_before (i ∷ some) zero d l = refl
not_before (i ∷ some) (suc k) d l =
    let y = get_or some k 0 in
    let other : (i == y) ≡ false =
    ne_eqb i y (λ e. both_ways _ d.0 (among_at some k i (omega (arith, l)) (sym e))) in
    or_from (i == y) (is_among (take k some) y) other (not_before some k d.1 (omega (arith, l)))
