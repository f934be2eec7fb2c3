-- Lists one item of which is set, place by place.
use Rattle.std.proofs.Common.{◌≡◌, ℕ, ◌+◌, ◌<◌, ◌≤◌, List, length, get_or, sym, subst, inl, inr, arith}
use Rattle.std.specs.Prelude.{slice_set}
use Rattle.std.proofs.lemmas.Bool.{cases_lt}
use Rattle.std.proofs.lemmas.List.{get_or-set_other}
use Rattle.std.proofs.lemmas.Grind.{get_or-set_at}

-- what holds up to the place that is set
pub upto_set : {X : Type 0} (xs : List X) (i : ℕ) (y d : X) (k : ℕ) (P : X → Type 0) → i < length xs → k < i + 1
    → (k ≡ i → P y) → (k < i → P (get_or xs k d)) → P (get_or (slice_set xs i y) k d)
upto_set xs i y d k P within below here early =
    elim (cases_lt k i) [
      | inl before ↦ subst P (sym (get_or-set_other xs i k y d (λ e. omega (arith, e, before)))) (early before)
      | inr late ↦
          let same : k ≡ i = omega (arith, below, late) in
          subst P (sym (get_or-set_at xs i k y d same within)) (here same)
    ]

-- what stands behind it
pub beyond_set : {X : Type 0} (xs : List X) (i : ℕ) (y d : X) (k : ℕ) → i + 1 ≤ k → get_or (slice_set xs i y) k d ≡ get_or xs k d
beyond_set xs i y d k above = get_or-set_other xs i k y d (λ e. omega (arith, e, above))
