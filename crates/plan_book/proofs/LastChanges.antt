-- The last change of a value: where the value goes on, and of another value that agrees with it.
use Rattle.std.proofs.Common.{◌≡◌, ℕ, ◌+◌, ◌-◌, ◌≤◌, inl, inr, sym, ap, ◌∙◌, arith}
use Rattle.std.specs.Prelude.{◌≢◌}
use Rattle.plan_model.specs.Legal.{IsLastChange}
use Rattle.plan_model.proofs.Changing.{stays_at, stays_more, stays_too}

-- of another value that is the same up to the last number
pub last_change_too : {X : Type 0} (value other : ℕ → X) (first last n : ℕ) → ((k : ℕ) → k ≤ last → other k ≡ value k)
    → IsLastChange value first last n → IsLastChange other first last n
last_change_too value other first last n same h = record {
  from_first = h.from_first;
  to_last = h.to_last;
  changes = elim h.changes [
    | inl e ↦ inl e
    | inr c ↦ inr (λ e. c (sym (same n h.to_last) ∙ e ∙ same (n - 1) (omega (arith, h.to_last))))
  ];
  stays = stays_too value other n last same h.stays;
}

-- one number further, at which the value is the same
pub last_change_on : {X : Type 0} (value : ℕ → X) (first last n : ℕ) → value (last + 1) ≡ value last
    → IsLastChange value first last n → IsLastChange value first (last + 1) n
last_change_on value first last n same h = record {
  from_first = h.from_first;
  to_last = omega (arith, h.to_last);
  changes = h.changes;
  stays = stays_more value n last h.stays same;
}

-- one number further, at which it changes
pub last_change_new : {X : Type 0} (value : ℕ → X) (first last : ℕ) → first ≤ last → value (last + 1) ≢ value last
    → IsLastChange value first (last + 1) (last + 1)
last_change_new value first last order differs = record {
  from_first = omega (arith, order);
  to_last = omega arith;
  changes = inr (λ e. differs (e ∙ ap value (omega arith)));
  stays = stays_at value (last + 1);
}
