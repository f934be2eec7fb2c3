-- The greatest of a number and of those at the places that pass a test, place after place.
use Rattle.std.proofs.Common.{◌≡◌, ℕ, ◌+◌, true, false, inl, inr, refl, sym, ap, subst, ◌∙◌, arith}
use Rattle.std.specs.Prelude.{ℤ, pos, ◌≤ℤ◌, Bool, Option, None, Some}
use Rattle.std.specs.Int.{int_max}
use Rattle.std.proofs.lemmas.Bool.{cases_Bool, cases_eq, both_ways}
use Rattle.std.proofs.lemmas.Int.{ints}
use Rattle.train_placing.proofs.Row.{max_either, max_left, max_right}
use Rattle.path_fill.specs.Search.{where_used, greater, IsAtMost, IsGreatest}

module _ (test : ℕ → Bool) (f : ℕ → ℤ) (from : ℤ) where
  pub none_yet : IsGreatest test f 0 from from
  none_yet = record {
    above = omega (arith, ints);
    each = λ k l t. absurd (omega (arith, l));
    reached = inl refl;
  }

  skipped : (n : ℕ) (best : ℤ) → IsGreatest test f n from best → test n ≡ false → IsGreatest test f (n + 1) from best
  skipped n best is fails = record {
    above = is.above;
    each = λ k l t.
        elim (cases_eq k n) [
          | inl same ↦ absurd (both_ways (test n) fails (subst (λ m. test m ≡ true) same t))
          | inr other ↦ is.each k (omega (arith, l, other)) t
        ];
    reached =
        elim is.reached [ inl r ↦ inl r | inr r ↦ inr (r.0, omega (arith, r.1), r.2, r.3) ];
  }

  taken : (n : ℕ) (best : ℤ) → IsGreatest test f n from best → test n ≡ true
      → IsGreatest test f (n + 1) from (int_max best (f n))
  taken n best is passes = record {
    above = omega (arith, ints, is.above, max_left best (f n));
    each = λ k l t.
        elim (cases_eq k n) [
          | inl same ↦ subst (λ m. f m ≤ℤ int_max best (f n)) (sym same) (max_right best (f n))
          | inr other ↦ omega (arith, ints, is.each k (omega (arith, l, other)) t, max_left best (f n))
        ];
    reached =
        elim (max_either best (f n)) [
          | inr e ↦ inr (n, omega arith, passes, e)
          | inl e ↦ elim is.reached [
            | inl r ↦ inl (e ∙ r)
            | inr r ↦ inr (r.0, omega (arith, r.1), r.2, e ∙ r.3)
          ]
        ];
  }

  -- one place more
  pub one_more : (n : ℕ) (best : ℤ) (o : Option ℤ) → IsGreatest test f n from best → o ≡ where_used (test n) (f n)
      → IsGreatest test f (n + 1) from (greater best o)
  one_more n best o is e =
      elim (cases_Bool (test n)) [
        | inr fails ↦
            let none : o ≡ None = e ∙ ap (λ b. where_used b (f n)) fails in
            subst (λ q. IsGreatest test f (n + 1) from (greater best q)) (sym none) (skipped n best is fails)
        | inl passes ↦
            let some : o ≡ Some (f n) = e ∙ ap (λ b. where_used b (f n)) passes in
            subst (λ q. IsGreatest test f (n + 1) from (greater best q)) (sym some) (taken n best is passes)
      ]

-- none is above a number that all are at most
pub no_more : (n : ℕ) (best : ℤ) (o : Option ℤ) → best ≤ℤ pos n → IsAtMost n o → greater best o ≤ℤ pos n
no_more n best None b h = b
no_more n best (Some x) b h =
    elim (max_either best x) [ inl e ↦ omega (arith, ints, e, b) | inr e ↦ omega (arith, ints, e, h) ]
