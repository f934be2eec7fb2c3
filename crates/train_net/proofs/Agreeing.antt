-- Kept members that stand in an order as they stood before.
use Rattle.std.proofs.Common.{◌≡◌, ℕ, ◌+◌, ◌<◌, ◌≤◌, List, length, inl, inr, subst, arith}
use Rattle.std.specs.Prelude.{Option, Some, slice_index}
use Rattle.std.proofs.lemmas.Bool.{cases_eq}
use Rattle.train_order.specs.Ordering.{StandsBefore}
use Rattle.train_net.specs.Mended.{stood, AgreeInOrder}
use Rattle.train_net.specs.Mending.{StandsFrom}

-- the kept ones of the first n stand as before, all before a place of the order of before
pub record AgreeUpto (origin : List (Option ℕ)) (before order : List ℕ) (n from : ℕ) : Type 0 where
  pub within : from ≤ length before
  pub below : (k a : ℕ) → k < n → stood origin (slice_index order k) ≡ Some a → StandsFrom before a 0 from
  pub agree : (k l a b : ℕ) → k < l → l < n → stood origin (slice_index order k) ≡ Some a
      → stood origin (slice_index order l) ≡ Some b → StandsBefore before a b

module _ (origin : List (Option ℕ)) (before order : List ℕ) where
  pub none_yet : AgreeUpto origin before order 0 0
  none_yet = record {
    within = omega arith;
    below = λ k a l. absurd (omega (arith, l));
    agree = λ k l a b lt ll. absurd (omega (arith, ll));
  }

  pub agree_more : (n from next : ℕ) → AgreeUpto origin before order n from → from ≤ next → next ≤ length before
      → ((old : ℕ) → stood origin (slice_index order n) ≡ Some old → StandsFrom before old from next)
      → AgreeUpto origin before order (n + 1) next
  agree_more n from next so le within stands = record {
    within = within;
    below = λ k a l kept.
        elim (cases_eq k n) [
          | inl e ↦
              let s = stands a (subst (λ i. stood origin (slice_index order i) ≡ Some a) e kept) in
              record { at = s.at; from_there = omega arith; upto = s.upto; within = s.within; is = s.is }
          | inr ne ↦
              let s = so.below k a (omega (arith, l, ne)) kept in
              record { at = s.at; from_there = omega arith; upto = omega (arith, s.upto, le); within = s.within; is = s.is }
        ];
    agree = λ k l a b lt ll kept_k kept_l.
        elim (cases_eq l n) [
          | inl e ↦
              let s = so.below k a (omega (arith, lt, e)) kept_k in
              let t = stands b (subst (λ i. stood origin (slice_index order i) ≡ Some b) e kept_l) in
              record { at = s.at; next = t.at; before = omega (arith, s.upto, t.from_there); within = t.within; one = s.is; other = t.is }
          | inr ne ↦ so.agree k l a b lt (omega (arith, ll, ne)) kept_k kept_l
        ];
  }

  pub agree_all : (n from : ℕ) → length order ≤ n → AgreeUpto origin before order n from → AgreeInOrder origin before order
  agree_all n from le so k l a b lt ll kept_k kept_l = so.agree k l a b lt (omega (arith, ll, le)) kept_k kept_l
