-- Values that change with edits: what stays, and the last change.
use Rattle.std.proofs.Common.{◌≡◌, ℕ, zero, suc, ◌+◌, ◌-◌, ◌≤◌, inl, inr, sym, ap, ◌∙◌, subst, arith}
use Rattle.std.proofs.lemmas.Bool.{cases_lt}
use Rattle.plan_model.specs.Legal.{Stays}

-- no number lies between a number and itself
pub stays_at : {X : Type 0} (value : ℕ → X) (number : ℕ) → Stays value number number
stays_at value number = record { each = λ n from to. absurd (omega arith) }

-- one number further, at which the value is the same
pub stays_more : {X : Type 0} (value : ℕ → X) (from to : ℕ) → Stays value from to → value (to + 1) ≡ value to
    → Stays value from (to + 1)
stays_more value from to stays same = record {
  each = λ n after within. elim (cases_lt to n) [
    | inl past ↦
        let before : n - 1 ≡ to = omega arith in
        let is : n ≡ to + 1 = omega arith in
        rw (before, is) same
    | inr below ↦ stays.each n after below
  ];
}

-- from one number to another and on to a third
pub stays_on : {X : Type 0} (value : ℕ → X) (from mid to : ℕ) → Stays value from mid → Stays value mid to → Stays value from to
stays_on value from mid to first second = record {
  each = λ n after within. elim (cases_lt mid n) [
    | inl past ↦ second.each n past within
    | inr below ↦ first.each n after below
  ];
}

-- over fewer numbers
pub stays_within : {X : Type 0} (value : ℕ → X) (from to low high : ℕ) → Stays value from to → from ≤ low → high ≤ to → Stays value low high
stays_within value from to low high stays above below = record {
  each = λ n after within. stays.each n (omega arith) (omega arith);
}

-- of another value that is the same up to the last number
pub stays_too : {X : Type 0} (value other : ℕ → X) (from to : ℕ) → ((n : ℕ) → n ≤ to → other n ≡ value n) → Stays value from to → Stays other from to
stays_too value other from to same stays = record {
  each = λ n after within. same n within ∙ stays.each n after within ∙ sym (same (n - 1) (omega arith));
}

-- what stays has one value
pub same_since : {X : Type 0} (value : ℕ → X) (from more : ℕ) → Stays value from (from + more) → value (from + more) ≡ value from
same_since value from zero stays = ap value (omega arith)
same_since value from (suc more) stays =
    let before : from + suc more - 1 ≡ from + more = omega arith in
    stays.each (from + suc more) (omega arith) (omega arith) ∙ ap value before
    ∙ same_since value from more (stays_within value from (from + suc more) from (from + more) stays (omega arith) (omega arith))

pub same_from : {X : Type 0} (value : ℕ → X) (from to : ℕ) → from ≤ to → Stays value from to → value to ≡ value from
same_from value from to order stays =
    let is : to ≡ from + (to - from) = omega arith in
    ap value is ∙ same_since value from (to - from) (subst (Stays value from) is stays)
