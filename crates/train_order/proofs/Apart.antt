-- Numbers of which none stands twice, in whatever order they are put.
use Rattle.std.proofs.Common.{◌≡◌, ◌≢◌, ℕ, ◌<◌, Bool, ◌==◌, List, length, get_or, inl, inr, sym, arith}
use Rattle.std.specs.Prelude.{filter, AllPairs}
use Rattle.std.specs.List.{range_with_len, All}
use Rattle.std.specs.List.Sorted.{IsPermutation}
use Rattle.std.proofs.lemmas.Bool.{cases_order, eq-eqb, both_ways}
use Rattle.std.proofs.lemmas.Bool.Decides.{Decides-eqb}
use Rattle.std.proofs.lemmas.List.FromFn.{length-range_with_len, get_or-range_with_len}
use Rattle.std.proofs.lemmas.List.Elements.{All-from_get_or}
use Rattle.std.proofs.lemmas.List.Sorted.{All-permutation}
use Rattle.std.proofs.lemmas.List.Kept.{AllPairs-filter}
use Rattle.std.proofs.lemmas.Map.Keys.{IsDistinct-IsPermutation, apart_from_distinct}
use Rattle.std.proofs.lemmas.Map.Made.{IsDistinct-from_AllPairs}
use Rattle.rail_model.proofs.Numbers.{eqb-sym}
use Rattle.plan_model.specs.declared.cut.Cut.{Cut}
use Rattle.plan_model.specs.Members.{member_count, members}

-- numbers of which no two are equal
abbrev pub Differ : List ℕ → Type 0
Differ some = AllPairs (λ i j. i ≢ j) some

pub range_differs : (n : ℕ) → Differ (range_with_len 0 n)
range_differs n i j d l lj e =
    let long : j < n = omega (arith, lj, length-range_with_len 0 n) in
    omega (
      arith,
      e,
      l,
      get_or-range_with_len 0 n i d (omega (arith, l, long)),
      get_or-range_with_len 0 n j d long,
    )

pub passing_differ : (test : ℕ → Bool) (n : ℕ) → Differ (filter test (range_with_len 0 n))
passing_differ test n = AllPairs-filter (λ i j. i ≢ j) test (range_with_len 0 n) (range_differs n)

module _ (some other : List ℕ) (differ : Differ some) (same : IsPermutation some other) where
  pub not_twice : (k l : ℕ) → k < l → l < length other → get_or other k 0 ≡ get_or other l 0 → ⊥
  not_twice k l lt ll e =
      both_ways _
      (apart_from_distinct (λ i j. i == j) other k l 0
      (IsDistinct-IsPermutation (λ i j. i == j) eqb-sym some other same (IsDistinct-from_AllPairs Decides-eqb some differ)) lt ll)
      (eq-eqb _ _ e)

  pub one_place : (k l : ℕ) → k < length other → l < length other → get_or other k 0 ≡ get_or other l 0 → k ≡ l
  one_place k l lk ll e =
      elim (cases_order k l) [
        | inl s ↦ s
        | inr d ↦ elim d [ inl lt ↦ absurd (not_twice k l lt ll e) | inr gt ↦ absurd (not_twice l k gt lk (sym e)) ]
      ]

-- the members of a cut in another order are members
pub below : (cut : Cut) (positions : List ℕ) → IsPermutation (members cut) positions → All (λ i. i < member_count cut) positions
below cut positions once =
    let n = member_count cut in
    All-permutation (λ i. i < n) (members cut) positions once
    (All-from_get_or (λ i. i < n) (members cut) 0 (λ k l.
    let lk : k < n = omega (arith, l, length-range_with_len 0 n) in
    omega (arith, lk, get_or-range_with_len 0 n k 0 lk)))
