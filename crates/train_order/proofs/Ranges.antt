-- Ranges that grow by one, and what is gathered over them.
use Rattle.std.proofs.Common.{◌≡◌, ℕ, zero, suc, ◌+◌, ◌<◌, ◌≤◌, Bool, true, false, cond, ◌||◌, [], ◌∷◌, ◌++◌, length, length-append, inl, inr, refl, ap, ◌∙◌, arith}
use Rattle.std.specs.Prelude.{filter}
use Rattle.std.specs.List.{list_any, range_with_len}
use Rattle.std.proofs.Math.Bool.{or-false}
use Rattle.std.proofs.lemmas.Bool.{cases_Bool, cases_lt}
use Rattle.std.proofs.lemmas.List.{append-nil}
use Rattle.std.proofs.lemmas.List.Elements.{filter-append}
use Rattle.std.proofs.lemmas.List.Folds.{list_any-append}
use Rattle.std.proofs.lemmas.List.FromFn.{length-range_with_len}
use Rattle.std.proofs.lemmas.List.Sums.{length-filter, count_by-le-length}
use Rattle.rail_model.proofs.Lists.{range_more}

pub any_more : (test : ℕ → Bool) (n : ℕ)
    → list_any test (range_with_len 0 (n + 1)) ≡ (list_any test (range_with_len 0 n) || test n)
any_more test n =
    ap (list_any test) (range_more 0 n n (omega arith)) ∙ list_any-append test (range_with_len 0 n) (n ∷ [])
    ∙ ap (λ b. list_any test (range_with_len 0 n) || b) (or-false (test n))

-- those that pass a test
pub passing_more : (test : ℕ → Bool) (n : ℕ)
    → filter test (range_with_len 0 (n + 1)) ≡ filter test (range_with_len 0 n) ++ filter test (n ∷ [])
passing_more test n =
    ap (filter test) (range_more 0 n n (omega arith)) ∙ filter-append test (range_with_len 0 n) (n ∷ [])

pub passing_yes : (test : ℕ → Bool) (n : ℕ) → test n ≡ true
    → filter test (range_with_len 0 (n + 1)) ≡ filter test (range_with_len 0 n) ++ n ∷ []
passing_yes test n e =
    passing_more test n ∙ ap (λ xs. filter test (range_with_len 0 n) ++ xs) (rw e refl)

pub passing_no : (test : ℕ → Bool) (n : ℕ) → test n ≡ false
    → filter test (range_with_len 0 (n + 1)) ≡ filter test (range_with_len 0 n)
passing_no test n e =
    passing_more test n ∙ ap (λ xs. filter test (range_with_len 0 n) ++ xs) (rw e refl)
    ∙ append-nil (filter test (range_with_len 0 n))

pub passing_on : (test : ℕ → Bool) (a b : ℕ) → a ≤ b → ((k : ℕ) → a ≤ k → k < b → test k ≡ false)
    → filter test (range_with_len 0 b) ≡ filter test (range_with_len 0 a)
passing_on test a zero l h = let e : a ≡ 0 = omega arith in rw e refl
passing_on test a (suc b) l h =
    elim (cases_lt b a) [
      | inl g ↦ let e : a ≡ suc b = omega arith in rw e refl
      | inr g ↦
          ap (λ m. filter test (range_with_len 0 m)) (let e : suc b ≡ b + 1 = omega arith in e)
          ∙ passing_no test b (h b g (omega arith)) ∙ passing_on test a b g (λ k lk lb. h k lk (omega arith))
    ]

pub length_passing : (test : ℕ → Bool) (n : ℕ)
    → length (filter test (range_with_len 0 (n + 1))) ≡ length (filter test (range_with_len 0 n)) + cond (test n) 1 0
length_passing test n =
    elim (cases_Bool (test n)) [
      | inl e ↦ rw e (ap length (passing_yes test n e) ∙ length-append (filter test (range_with_len 0 n)) (n ∷ []))
      | inr e ↦ rw e (ap length (passing_no test n e) ∙ omega arith)
    ]

pub passing_few : (test : ℕ → Bool) (n : ℕ) → length (filter test (range_with_len 0 n)) ≤ n
passing_few test n =
    omega (arith, length-filter test (range_with_len 0 n), count_by-le-length test (range_with_len 0 n), length-range_with_len 0 n)

-- two tests that agree
pub same_passing : (p q : ℕ → Bool) (a n : ℕ) → ((i : ℕ) → a ≤ i → i < a + n → q i ≡ p i)
    → filter q (range_with_len a n) ≡ filter p (range_with_len a n)
same_passing p q a zero h = refl
same_passing p q a (suc n) h =
    let rest = same_passing p q (a + 1) n (λ i l m. h i (omega arith) (omega arith)) in
    let here : q a ≡ p a = h a (omega arith) (omega arith) in
    elim (cases_Bool (p a)) [
      | inl e ↦ let f : q a ≡ true = here ∙ e in rw (e, f) (ap (λ xs. a ∷ xs) rest)
      | inr e ↦ let f : q a ≡ false = here ∙ e in rw (e, f) rest
    ]
