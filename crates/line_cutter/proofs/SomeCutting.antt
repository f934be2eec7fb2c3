-- Each sound cut has a cutting: a piece is lengthened until it ends with the line, or one block more leaves it without
-- order; there the next piece begins.
use Rattle.std.proofs.Common.{◌≡◌, ◌⊎◌, ℕ, zero, suc, ◌+◌, ◌<◌, ◌≤◌, List, [], ◌∷◌, inl, inr, refl, arith}
use Rattle.std.specs.Prelude.{Option, None, Some, Err}
use Rattle.std.proofs.lemmas.Bool.{cases_lt}
use Rattle.plan_model.specs.declared.cut.Cut.{Cut}
use Rattle.plan_model.specs.declared.answer.Disorder.{Disorder}
use Rattle.plan_model.specs.declared.answer.Disorder.TheVariants as disorder
use Rattle.plan_model.specs.Members.{block_count}
use Rattle.plan_model.specs.Cut.{IsSoundCut}
use Rattle.plan_model.specs.Disorder.{Opposite, opposite, remaining, ring}
use Rattle.train_order.specs.Ordering.{IsOrdering}
use Rattle.line_cutter.specs.declared.found.Stretch.{Stretch}
use Rattle.line_cutter.specs.Cutting.{piece, IsOrderly, AreOrderly, AreStretches}
use Rattle.line_cutter.specs.Search.{IsFitting}
use Rattle.line_cutter.specs.Laws.{CuttingIsThere}
use Rattle.line_cutter.proofs.SoundPiece.{sound_piece, places_in}
use Rattle.line_cutter.proofs.Single.{single}

-- ---- a cut is orderly or has a disorder

module _ (cut : Cut) where
  abbrev IsSettled : Type 0
  IsSettled = IsOrderly cut ⊎ ((d : Disorder) × IsOrdering cut (Err d))

  not_opposite : opposite cut ≡ None → (left : List ℕ) → remaining cut ≡ left → IsSettled
  not_opposite alike [] none = inl (record { not_opposite = alike; none_remains = none })
  not_opposite alike (k ∷ left) some = inr (disorder.Ring (ring cut), (alike, (λ none. cc), refl))

  by_opposite : (o : Option Opposite) → opposite cut ≡ o → IsSettled
  by_opposite None alike = not_opposite alike (remaining cut) refl
  by_opposite (Some o) is = inr (disorder.Opposite o.first o.second o.block1 o.block2, is)

  settled : IsSettled
  settled = by_opposite (opposite cut) refl

-- ---- piece after piece

-- a cutting from one block on
record IsCutFrom (cut : Cut) (a : ℕ) : Type 0 where
  pub ends : List ℕ
  pub stretches : List Stretch
  pub orderly : AreOrderly cut a ends
  pub are : AreStretches cut a ends stretches

module _ (cut : Cut) (sound : IsSoundCut cut) where
  -- a piece of one block is orderly
  pub one_fits : (a : ℕ) → a < block_count cut → IsFitting cut a (a + 1)
  one_fits a l =
      let some : a < a + 1 = omega arith in
      let within : a + 1 ≤ block_count cut = omega (arith, l) in
      record {
        some = some;
        within = within;
        orderly =
            single (piece cut a (a + 1)) (sound_piece cut sound a (a + 1) some within)
            (omega (arith, places_in cut sound a (a + 1) some within));
      }

  to_the_end : (a b : ℕ) → IsFitting cut a b → block_count cut ≤ b → IsCutFrom cut a
  to_the_end a b fits over =
      let last : b ≡ block_count cut = omega (arith, over, fits.within) in
      record { ends = b ∷ []; stretches = []; orderly = (fits.some, fits.within, fits.orderly, last); are = (last, refl) }

  with_stretch : (a b : ℕ) → IsFitting cut a b → b < block_count cut → (d : Disorder)
      → IsOrdering (piece cut a (b + 1)) (Err d) → IsCutFrom cut b → IsCutFrom cut a
  with_stretch a b fits below d is rest =
      let stretch : Stretch = record { first = a; last = b; disorder = d } in
      record {
        ends = b ∷ rest.ends;
        stretches = stretch ∷ rest.stretches;
        orderly = (fits.some, fits.within, fits.orderly, rest.orderly);
        are = (below, record { first = refl; last = refl; disorder = is }, rest.are);
      }

  -- a cutting from block a on, whose first piece ends no earlier than another that fits
  cut_from : (n a b : ℕ) → block_count cut ≤ b + n → IsFitting cut a b → IsCutFrom cut a
  cut_from zero a b few fits = to_the_end a b fits (omega (arith, few))
  cut_from (suc n) a b few fits =
      let fewer : block_count cut ≤ b + 1 + n = omega (arith, few) in
      elim (cases_lt b (block_count cut)) [
        | inr over ↦ to_the_end a b fits over
        | inl below ↦ elim (settled (piece cut a (b + 1))) [
          | inl orderly ↦
              cut_from n a (b + 1) fewer
              (record { some = omega (arith, fits.some); within = omega (arith, below); orderly = orderly })
          | inr (d, is) ↦ with_stretch a b fits below d is (cut_from n b (b + 1) fewer (one_fits b below))
        ]
      ]

pub cutting_is_there : CuttingIsThere
cutting_is_there cut sound =
    let all = cut_from cut sound (block_count cut) 0 1 (omega arith) (one_fits cut sound 0 sound.some_block) in
    (record { ends = all.ends; stretches = all.stretches }, record { orderly = all.orderly; stretches = all.are })
