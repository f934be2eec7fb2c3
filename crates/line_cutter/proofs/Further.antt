-- One piece more.
use Rattle.std.proofs.Common.{◌≡◌, ℕ, ◌<◌, List, [], ◌∷◌, ◌++◌, sym, subst}
use Rattle.plan_model.specs.declared.cut.Cut.{Cut}
use Rattle.plan_model.specs.Members.{block_count}
use Rattle.line_cutter.specs.declared.found.Stretch.{Stretch}
use Rattle.line_cutter.specs.Cutting.{AreOrderly, IsStretch, AreStretches}
use Rattle.line_cutter.specs.Search.{IsFitting, AreCutTo}

module _ (cut : Cut) where
  -- up to the end of another piece, which has its stretch
  pub cut_more : (ends : List ℕ) (stretches : List Stretch) (a j k : ℕ) (s : Stretch) → AreCutTo cut a ends stretches j
      → IsFitting cut j k → k < block_count cut → IsStretch cut j k s
      → AreCutTo cut a (ends ++ k ∷ []) (stretches ++ s ∷ []) k
  cut_more [] [] a j k s so_far fits below is =
      subst (λ i. AreCutTo cut i (k ∷ []) (s ∷ []) k) (sym so_far) (fits, below, is, λ i. k)
  cut_more [] (t ∷ stretches) a j k s so_far fits below is = absurd so_far
  cut_more (b ∷ ends) [] a j k s so_far fits below is = absurd so_far
  cut_more (b ∷ ends) (t ∷ stretches) a j k s so_far fits below is =
      (so_far.0, so_far.1, so_far.2, cut_more ends stretches b j k s so_far.3 fits below is)

  -- with the last piece
  pub all_orderly : (ends : List ℕ) (stretches : List Stretch) (a j k : ℕ) → AreCutTo cut a ends stretches j
      → IsFitting cut j k → k ≡ block_count cut → AreOrderly cut a (ends ++ k ∷ [])
  all_orderly [] [] a j k so_far fits last =
      subst (λ i. AreOrderly cut i (k ∷ [])) (sym so_far) (fits.some, fits.within, fits.orderly, last)
  all_orderly [] (t ∷ stretches) a j k so_far fits last = absurd so_far
  all_orderly (b ∷ ends) [] a j k so_far fits last = absurd so_far
  all_orderly (b ∷ ends) (t ∷ stretches) a j k so_far fits last =
      let f = so_far.0 in
      (f.some, f.within, f.orderly, all_orderly ends stretches b j k so_far.3 fits last)

  pub all_stretches : (ends : List ℕ) (stretches : List Stretch) (a j k : ℕ) → AreCutTo cut a ends stretches j
      → k ≡ block_count cut → AreStretches cut a (ends ++ k ∷ []) stretches
  all_stretches [] [] a j k so_far last = (last, λ i. [])
  all_stretches [] (t ∷ stretches) a j k so_far last = absurd so_far
  all_stretches (b ∷ ends) [] a j k so_far last = absurd so_far
  all_stretches (b ∷ ends) (t ∷ stretches) a j k so_far last =
      (so_far.1, so_far.2, all_stretches ends stretches b j k so_far.3 last)
