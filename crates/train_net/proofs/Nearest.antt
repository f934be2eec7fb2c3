-- Who stands nearest before a position at a place.
use Rattle.std.proofs.Common.{◌≡◌, ℕ, zero, suc, ◌+◌, ◌-◌, ◌<◌, ◌≤◌, true, false, List, inl, inr, refl, arith}
use Rattle.std.proofs.lemmas.Bool.{cases_Bool, cases_order}
use Rattle.plan_model.specs.declared.cut.Cut.{Cut}
use Rattle.plan_model.specs.Members.{uses_place}
use Rattle.train_net.specs.Net.{standing, IsNearest}

module _ (cut : Cut) (order : List ℕ) (place at near : ℕ) (uses : uses_place (standing cut order near) place ≡ true) where
  -- nobody uses the place between a position and this one
  abbrev NoneFrom : ℕ → Type 0
  NoneFrom n = (k : ℕ) → n < k → k < at → uses_place (standing cut order k) place ≡ false

  nearest_upto : (g n : ℕ) → n ≡ near + g → n < at → NoneFrom n
      → (m : ℕ) × (near ≤ m) × IsNearest cut order place m at
  nearest_upto zero n is before none =
      let e : n ≡ near = omega (arith, is) in
      (n, omega (arith, e), record { before = before; uses = rw e uses; none = none })
  nearest_upto (suc g) n is before none =
      elim (cases_Bool (uses_place (standing cut order n) place)) [
        | inl here ↦ (n, omega (arith, is), record { before = before; uses = here; none = none })
        | inr out ↦
            let e : near + g + 1 ≡ n = omega (arith, is) in
            nearest_upto g (near + g) refl (omega (arith, e, before))
            (λ k above below.
            elim (cases_order k n) [
              | inl same ↦ rw same out
              | inr differ ↦ elim differ [
                | inl lt ↦ absurd (omega (arith, lt, above, e))
                | inr gt ↦ none k gt below
              ]
            ])
      ]

  -- where one before it uses the place, somebody stands nearest, and not before that one
  pub nearest_after : near < at → (m : ℕ) × (near ≤ m) × IsNearest cut order place m at
  nearest_after before =
      let g = at - near - 1 in
      nearest_upto g (near + g) refl (omega (arith, before)) (λ k above below. absurd (omega (arith, above, below, before)))
