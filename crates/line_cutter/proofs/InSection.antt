-- The pieces and stretches of a cutting lie within the section.
use Rattle.std.proofs.Common.{ℕ, zero, suc, ◌<◌, ◌≤◌, List, [], ◌∷◌, length, slice_index, All, arith}
use Rattle.std.proofs.lemmas.List.Elements.{All-nil, All-cons}
use Rattle.plan_model.specs.declared.cut.Cut.{Cut}
use Rattle.plan_model.specs.Members.{block_count}
use Rattle.line_cutter.specs.declared.found.Stretch.{Stretch}
use Rattle.line_cutter.specs.Cutting.{AreOrderly, AreStretches}
use Rattle.line_cutter.specs.Rows.{ArePiecesWithin, IsStretchWithin}

module _ (cut : Cut) where
  within : (ends : List ℕ) (a : ℕ) → AreOrderly cut a ends → (k : ℕ) → k < length ends
      → (slice_index (a ∷ ends) k < slice_index ends k) × (slice_index ends k ≤ block_count cut)
  within [] a x k l = absurd (omega (arith, l))
  within (b ∷ ends) a x zero l = (x.0, x.1)
  within (b ∷ ends) a x (suc k) l = within ends b x.3 k (omega (arith, l))

  pub pieces_within : (ends : List ℕ) → AreOrderly cut 0 ends → ArePiecesWithin cut.section ends
  pieces_within ends x k l = let w = within ends 0 x k l in record { some = w.0; within = w.1 }

  pub stretches_within : (ends : List ℕ) (stretches : List Stretch) (a : ℕ) → AreOrderly cut a ends
      → AreStretches cut a ends stretches → All (IsStretchWithin cut.section) stretches
  stretches_within [] stretches a x y = absurd y
  stretches_within (b ∷ ends) [] a x y = All-nil (IsStretchWithin cut.section)
  stretches_within (b ∷ ends) (s ∷ stretches) a x y =
      let is = y.1 in
      All-cons (IsStretchWithin cut.section) s stretches
      (record { first = omega (arith, is.first, x.0, y.0); last = omega (arith, is.last, y.0) })
      (stretches_within ends stretches b x.3 y.2)
