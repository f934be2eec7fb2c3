-- Of two opposite members each is preceded by the other, so both remain.
use Rattle.std.proofs.Common.{◌≡◌, ◌⊎◌, ℕ, ◌<◌, true, [], inl, inr, refl, sym, ap, subst}
use Rattle.std.specs.Prelude.{option_map}
use Rattle.plan_model.specs.declared.cut.Cut.{Cut}
use Rattle.plan_model.specs.Members.{member_count, precedes_somewhere}
use Rattle.plan_model.specs.Disorder.{remaining, opposite_of}
use Rattle.plan_model.proofs.MemberTests.{has}
use Rattle.plan_model.proofs.Preceded.{remain}
use Rattle.train_order.proofs.Opposed.{none_opposite}
use Rattle.critical_chain.specs.Checked.{OrderedIsNotOpposite}

module _ (cut : Cut) (i j : ℕ) (li : i < member_count cut) (lj : j < member_count cut)
    (before : precedes_somewhere cut i j ≡ true) (after : precedes_somewhere cut j i ≡ true) where
  abbrev IsOne : ℕ → Type 0
  IsOne k = (k ≡ i) ⊎ (k ≡ j)

  there : (k : ℕ) → IsOne k → k < member_count cut
  there k one =
      elim one [
        | inl e ↦ subst (λ m. m < member_count cut) (sym e) li
        | inr e ↦ subst (λ m. m < member_count cut) (sym e) lj
      ]

  preceded : (k : ℕ) → IsOne k → (m : ℕ) × IsOne m × (precedes_somewhere cut m k ≡ true)
  preceded k one =
      elim one [
        | inl e ↦ (j, inr refl, subst (λ m. precedes_somewhere cut j m ≡ true) (sym e) after)
        | inr e ↦ (i, inl refl, subst (λ m. precedes_somewhere cut i m ≡ true) (sym e) before)
      ]

  never : remaining cut ≡ [] → ⊥
  never none =
      let remains = remain cut IsOne there preceded i (inl refl) in
      let gone = ap (λ some. has some i) none in
      absurd (cc)

pub ordered_is_not_opposite : OrderedIsNotOpposite
ordered_is_not_opposite cut none =
    ap (option_map (opposite_of cut)) (none_opposite cut (λ i j li lj p q. never cut i j li lj p q none))
