-- A train that precedes another is taken out in an earlier round.
use Rattle.std.proofs.Common.{◌≡◌, ℕ, zero, suc, ◌<◌, true, false, List, inl, inr, subst, arith}
use Rattle.std.specs.List.{list_any}
use Rattle.std.proofs.lemmas.Bool.{cases_Bool, both_ways, false_from_ne_true}
use Rattle.plan_model.specs.declared.cut.Cut.{Cut}
use Rattle.plan_model.specs.Members.{member_count, members, precedes_somewhere}
use Rattle.plan_model.specs.Disorder.{preceded, after_rounds}
use Rattle.plan_model.proofs.MemberTests.{has, has-range, has_any, has-filter}
use Rattle.plan_model.proofs.TrueRing.{of_rounds}

module _ (cut : Cut) where
  none_comes_back : (n : ℕ) (some : List ℕ) (i : ℕ) → has some i ≡ false → has (after_rounds cut n some) i ≡ false
  none_comes_back n some i out = false_from_ne_true _ (λ h. both_ways _ out (of_rounds cut n some i h))

  module _ (i j : ℕ) (before : precedes_somewhere cut i j ≡ true) where
    -- where a train goes in a round, those that precede it are gone
    gone : (some : List ℕ) → has some j ≡ true → has (preceded cut some) j ≡ false → has some i ≡ false
    gone some there out =
        elim (cases_Bool (has some i)) [
          | inr left ↦ left
          | inl still ↦
              absurd (both_ways _ out
              (has-filter (λ k. list_any (λ l. precedes_somewhere cut l k) some) some j there
              (has_any (λ l. precedes_somewhere cut l j) some i still before)))
        ]

    a_round_before : (n : ℕ) (some : List ℕ) → has some j ≡ true → has (after_rounds cut (suc n) some) j ≡ false
        → has (after_rounds cut n some) i ≡ false
    a_round_before zero some there out = gone some there out
    a_round_before (suc n) some there out =
        elim (cases_Bool (has (preceded cut some) j)) [
          | inl still ↦ a_round_before n (preceded cut some) still out
          | inr left ↦ none_comes_back (suc n) some i (gone some there left)
        ]

  -- a member is taken out within some rounds
  abbrev pub IsOutWithin : ℕ → ℕ → Type 0
  IsOutWithin n j = has (after_rounds cut n (members cut)) j ≡ false

  pub some_rounds : (n j : ℕ) → j < member_count cut → IsOutWithin n j → 0 < n
  some_rounds zero j l out = absurd (both_ways _ out (has-range (member_count cut) j l))
  some_rounds (suc n) j l out = omega arith

  pub earlier : (n m i j : ℕ) → n ≡ suc m → j < member_count cut → precedes_somewhere cut i j ≡ true
      → IsOutWithin n j → IsOutWithin m i
  earlier n m i j e l before out =
      a_round_before i j before m (members cut) (has-range (member_count cut) j l)
      (subst (λ k. IsOutWithin k j) e out)
