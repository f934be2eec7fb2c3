-- The first opposite pair by the sets is the least opposite pair of the cut.
use Rattle.std.proofs.Common.{◌≡◌, ℕ, zero, suc, ◌+◌, ◌-◌, ◌<◌, true, false, ◌&&◌, List, length, map, sym, ap, subst, ◌∙◌, arith}
use Rattle.std.specs.Prelude.{Some, None, find}
use Rattle.std.specs.List.{flat_map, range_with_len, All}
use Rattle.std.proofs.lemmas.Bool.{and_parts, false_from_ne_true}
use Rattle.std.proofs.lemmas.List.Elements.{All-nil, All-append, All-map, All-weaker, All-from_get_or}
use Rattle.std.proofs.lemmas.List.FromFn.{length-range_with_len, get_or-range_with_len}
use Rattle.rail_model.proofs.Lists.{find_none, flat_map-range_more}
use Rattle.plan_model.specs.declared.cut.Cut.{Cut}
use Rattle.plan_model.specs.Members.{member_count, precedes_somewhere}
use Rattle.plan_model.specs.Disorder.{are_opposite, pairs, opposite_pair}
use Rattle.train_order.specs.declared.member_set.MemberSet.{MemberSet}
use Rattle.train_order.specs.Sets.{relates, ArePreceded}
use Rattle.train_order.specs.Opposite.{oppose, first_opposed}
use Rattle.train_order.specs.Ordering.{AreOpposed}
use Rattle.train_order.proofs.Find.{find_agree, find_holds}

all_flat : {X : Type 0} (P : X → Type 0) (f : ℕ → List X) (n : ℕ) → ((i : ℕ) → i < n → All P (f i)) → All P (flat_map f (range_with_len 0 n))
all_flat P f zero h = All-nil P
all_flat P f (suc n) h =
    subst (λ m. All P (flat_map f (range_with_len 0 m))) (let e : n + 1 ≡ suc n = omega arith in e)
    (subst (λ xs. All P xs) (sym (flat_map-range_more f n)) (All-append P (flat_map f (range_with_len 0 n)) (f n) (all_flat P f n (λ i l. h i (omega arith))) (h n (omega arith))))

-- the lesser of two numbers first, both below n
abbrev AreBelow : ℕ → ℕ × ℕ → Type 0
AreBelow n p = (p.0 < p.1) × (p.1 < n)

pairs_below : (n : ℕ) → All (AreBelow n) (pairs n)
pairs_below n =
    all_flat (AreBelow n) (λ i. map (λ j. (i, j)) (range_with_len (i + 1) (n - (i + 1)))) n (λ i l.
    All-map (AreBelow n) (λ j. (i, j)) (range_with_len (i + 1) (n - (i + 1)))
    (All-from_get_or (λ j. (i < j) × (j < n)) (range_with_len (i + 1) (n - (i + 1))) 0 (λ k lk.
    let lk' : k < n - (i + 1) = omega (arith, lk, length-range_with_len (i + 1) (n - (i + 1))) in
    let is = get_or-range_with_len (i + 1) (n - (i + 1)) k 0 lk' in
    (omega (arith, is), omega (arith, lk', is)))))

pub first_below : (sets : List MemberSet) (i j : ℕ) → Some (i, j) ≡ first_opposed sets → (i < j) × (j < length sets)
first_below sets i j e =
    (find_holds (λ (p : ℕ × ℕ). oppose sets p.0 p.1) (AreBelow (length sets)) (pairs (length sets)) (i, j) (pairs_below (length sets)) (sym e)).1

module _ (cut : Cut) where
  abbrev n : ℕ
  n = member_count cut

  -- no two members are opposite
  pub no_pair : ((i j : ℕ) → i < j → j < n → are_opposite cut i j ≡ true → ⊥) → opposite_pair cut ≡ None
  no_pair never =
      find_none (λ (p : ℕ × ℕ). are_opposite cut p.0 p.1) (pairs n)
      (All-weaker (AreBelow n) (λ (p : ℕ × ℕ). are_opposite cut p.0 p.1 ≡ false)
      (λ p below. false_from_ne_true _ (never p.0 p.1 below.0 below.1)) (pairs n) (pairs_below n))

  pub none_opposite : ((i j : ℕ) → i < n → j < n → precedes_somewhere cut i j ≡ true → precedes_somewhere cut j i ≡ true → ⊥)
      → opposite_pair cut ≡ None
  none_opposite never =
      no_pair (λ i j lt lj h.
      let parts = and_parts (precedes_somewhere cut i j) (precedes_somewhere cut j i) h in
      never i j (omega (arith, lt, lj)) lj parts.0 parts.1)

  pub pair_opposed : (i j : ℕ) → opposite_pair cut ≡ Some (i, j) → AreOpposed cut i j
  pair_opposed i j e =
      let r = find_holds (λ (p : ℕ × ℕ). are_opposite cut p.0 p.1) (AreBelow n) (pairs n) (i, j) (pairs_below n) e in
      let parts = and_parts (precedes_somewhere cut i j) (precedes_somewhere cut j i) r.0 in
      record { lesser = r.1.0; there = r.1.1; precedes = parts.0; preceded = parts.1 }

  module _ (sets : List MemberSet) (told : ArePreceded cut sets) where
    pub pair_is : opposite_pair cut ≡ first_opposed sets
    pair_is =
        find_agree (λ (p : ℕ × ℕ). are_opposite cut p.0 p.1) (λ (p : ℕ × ℕ). oppose sets p.0 p.1) (pairs n)
        (All-weaker (AreBelow n) (λ (p : ℕ × ℕ). are_opposite cut p.0 p.1 ≡ oppose sets p.0 p.1) (λ p below.
        let there : p.0 < n = omega (arith, below.0, below.1) in
        ap (λ b. b && precedes_somewhere cut p.1 p.0) (sym (told.each p.0 p.1 there below.1))
        ∙ ap (λ b. relates sets p.0 p.1 && b) (sym (told.each p.1 p.0 below.1 there))) (pairs n) (pairs_below n))
        ∙ ap (λ m. find (λ (p : ℕ × ℕ). oppose sets p.0 p.1) (pairs m)) (sym told.count)

    pub are_opposed : (i j : ℕ) → Some (i, j) ≡ first_opposed sets → AreOpposed cut i j
    are_opposed i j e = pair_opposed i j (pair_is ∙ sym e)
