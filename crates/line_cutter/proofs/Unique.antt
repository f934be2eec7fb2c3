-- A cut has one cutting.
use Rattle.std.proofs.Common.{◌≡◌, ℕ, ◌+◌, List, [], ◌∷◌, refl, sym, ◌∙◌, subst, arith}
use Rattle.plan_model.specs.declared.cut.Cut.{Cut}
use Rattle.train_order.proofs.Unique.{disorder_is_unique}
use Rattle.line_cutter.specs.declared.found.Stretch.{Stretch}
use Rattle.line_cutter.specs.Cutting.{piece, AreOrderly, IsStretch, AreStretches}
use Rattle.line_cutter.specs.Laws.{CuttingIsUnique}
use Rattle.line_cutter.proofs.Along.{ends_by}

module _ (cut : Cut) where
  same_stretch : (a b : ℕ) (s t : Stretch) → IsStretch cut a b s → IsStretch cut a b t → s ≡ t
  same_stretch a b s t is other =
      let first : s.first ≡ t.first = is.first ∙ sym other.first in
      let last : s.last ≡ t.last = is.last ∙ sym other.last in
      let disorder = disorder_is_unique (piece cut a (b + 1)) s.disorder t.disorder is.disorder other.disorder in
      λ i. record { first = first i; last = last i; disorder = disorder i }

  same_end : (a b c : ℕ) (s t : Stretch) (ends others : List ℕ) → IsStretch cut a b s → IsStretch cut a c t
      → AreOrderly cut a (b ∷ ends) → AreOrderly cut a (c ∷ others) → b ≡ c
  same_end a b c s t ends others is other orderly others_orderly =
      omega (arith, ends_by cut a b a c s is (omega arith) others_orderly.2, ends_by cut a c a b t other (omega arith) orderly.2)

  -- from one block on, two cuttings have the same ends and stretches
  same_from : (a : ℕ) (ends : List ℕ) (stretches : List Stretch) (others : List ℕ) (others_stretches : List Stretch)
      → AreOrderly cut a ends → AreStretches cut a ends stretches → AreOrderly cut a others
      → AreStretches cut a others others_stretches → (ends ≡ others) × (stretches ≡ others_stretches)
  same_from a [] ss others ts x y z w = absurd y
  same_from a (b ∷ ends) ss [] ts x y z w = absurd w
  same_from a (b ∷ ends) [] (c ∷ others) [] x y z w =
      let last : b ≡ c = y.0 ∙ sym w.0 in
      let none : ends ≡ others = y.1 ∙ sym w.1 in
      ((λ i. last i ∷ none i), refl)
  same_from a (b ∷ ends) [] (c ∷ others) (t ∷ ts) x y z w =
      absurd (omega (arith, ends_by cut a c a b t w.1 (omega arith) x.2, y.0, w.0))
  same_from a (b ∷ ends) (s ∷ ss) (c ∷ others) [] x y z w =
      absurd (omega (arith, ends_by cut a b a c s y.1 (omega arith) z.2, w.0, y.0))
  same_from a (b ∷ ends) (s ∷ ss) (c ∷ others) (t ∷ ts) x y z w =
      let end : b ≡ c = same_end a b c s t ends others y.1 w.1 x z in
      let is = same_stretch a b s t y.1 (subst (λ k. IsStretch cut a k t) (sym end) w.1) in
      let rest =
      same_from b ends ss others ts x.3 y.2 (subst (λ k. AreOrderly cut k others) (sym end) z.3)
      (subst (λ k. AreStretches cut k others ts) (sym end) w.2) in
      ((λ i. end i ∷ rest.0 i), (λ i. is i ∷ rest.1 i))

pub cutting_is_unique : CuttingIsUnique
cutting_is_unique cut cutting other is others =
    let same =
    same_from cut 0 cutting.ends cutting.stretches other.ends other.stretches is.orderly is.stretches others.orderly others.stretches in
    λ i. record { ends = same.0 i; stretches = same.1 i }
