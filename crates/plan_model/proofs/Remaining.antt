-- What remains: a further round takes nothing out.
use Rattle.std.proofs.Common.{◌≡◌, ℕ, zero, suc, ◌<◌, ◌≤◌, ◌⊎◌, Bool, List, [], ◌∷◌, length, inl, inr, refl, ap, arith}
use Rattle.std.specs.Prelude.{filter}
use Rattle.std.specs.List.{list_any}
use Rattle.std.proofs.lemmas.Bool.{cases_Bool}
use Rattle.std.proofs.lemmas.List.FromFn.{length-range_with_len}
use Rattle.plan_model.specs.declared.cut.Cut.{Cut}
use Rattle.plan_model.specs.Members.{member_count, members, precedes_somewhere}
use Rattle.plan_model.specs.Disorder.{preceded, after_rounds}
use Rattle.plan_model.specs.Laws.{RemainingIsLeft}

-- a test takes some out, or passes all
fewer_or_same : (test : ℕ → Bool) (some : List ℕ)
    → (length (filter test some) < length some) ⊎ (filter test some ≡ some)
fewer_or_same test [] = inr refl
fewer_or_same test (k ∷ some) =
    elim (cases_Bool (test k)) [
      | inl e ↦ elim (fewer_or_same test some) [
        | inl l ↦ inl (rw e (omega (arith, l)))
        | inr s ↦ inr (rw e (ap (λ ks. k ∷ ks) s))
      ]
      | inr e ↦ elim (fewer_or_same test some) [
        | inl l ↦ inl (rw e (omega (arith, l)))
        | inr s ↦ inl (rw (e, s) (omega arith))
      ]
    ]

module _ (cut : Cut) where
  stays : (n : ℕ) (some : List ℕ) → preceded cut some ≡ some → after_rounds cut n some ≡ some
  stays zero some e = refl
  stays (suc n) some e = rw e (stays n some e)

  left : (n : ℕ) (some : List ℕ) → length some ≤ n → preceded cut (after_rounds cut n some) ≡ after_rounds cut n some
  left zero [] l = refl
  left zero (k ∷ some) l = absurd (omega (arith, l))
  left (suc n) some l =
      elim (fewer_or_same (λ j. list_any (λ i. precedes_somewhere cut i j) some) some) [
        | inl fewer ↦ left n (preceded cut some) (omega (arith, fewer))
        | inr e ↦ rw e (rw (stays n some e) e)
      ]

pub remaining_is_left : RemainingIsLeft
remaining_is_left cut = left cut (member_count cut) (members cut)
    (omega (arith, length-range_with_len 0 (member_count cut)))
