-- The ring of the members that are not taken up is the definition's.
use Rattle.std.proofs.Common.{◌≡◌, ℕ, zero, suc, ◌<◌, ◌≤◌, not, List, [], ◌∷◌, length, drop, get_or, inl, inr, sym, ap, ◌∙◌, arith}
use Rattle.std.specs.Prelude.{reverse, nat_le}
use Rattle.std.specs.List.{list_all, position_or_len}
use Rattle.std.proofs.lemmas.Bool.{cases_lt, le-leb, both_ways, not-true, not_from_false}
use Rattle.std.proofs.lemmas.Grind.{get_or_default_zero}
use Rattle.std.proofs.lemmas.List.Sums.{fails_before_first, list_all-from_AllPass}
use Rattle.plan_model.specs.declared.cut.Cut.{Cut}
use Rattle.plan_model.specs.Disorder.{remaining, from_least}
use Rattle.plan_model.proofs.MemberTests.{has_any}
use Rattle.train_order.specs.declared.member_set.MemberSet.{MemberSet}
use Rattle.train_order.specs.Sets.{relates, ArePreceded}
use Rattle.train_order.specs.Taking.{is_among, AreTakenUp}
use Rattle.train_order.specs.Walk.{ArePrecededWithin, IsRound, IsRing, IsRingOf}
use Rattle.train_order.proofs.Among.{among_passing, passing_among}
use Rattle.train_order.proofs.Whole.{left_of, whole_length}
use Rattle.train_order.proofs.Rounds.{remaining_is}
use Rattle.train_order.proofs.Walks.{walk_short, circuit_is}
use Rattle.train_order.proofs.Cycle.{ring_turned, ring_of_walk}

-- ---- the least

record HasLeast (ms : List ℕ) : Type 0 where
  at : ℕ
  within : at < length ms
  least : (k : ℕ) → k < length ms → get_or ms at 0 ≤ get_or ms k 0

first_least : (m : ℕ) (ms : List ℕ) → ((k : ℕ) → k < length ms → m ≤ get_or ms k 0)
    → (k : ℕ) → k < length (m ∷ ms) → m ≤ get_or (m ∷ ms) k 0
first_least m ms h zero l = omega arith
first_least m ms h (suc k) l = h k (omega (arith, l))

later_least : (m : ℕ) (ms : List ℕ) (at : ℕ) → get_or ms at 0 ≤ m
    → ((k : ℕ) → k < length ms → get_or ms at 0 ≤ get_or ms k 0)
    → (k : ℕ) → k < length (m ∷ ms) → get_or ms at 0 ≤ get_or (m ∷ ms) k 0
later_least m ms at le h zero l = le
later_least m ms at le h (suc k) l = h k (omega (arith, l))

least_of : (m : ℕ) (ms : List ℕ) → HasLeast (m ∷ ms)
least_of m [] = record { at = 0; within = omega arith; least = first_least m [] (λ k l. absurd (omega (arith, l))) }
least_of m (x ∷ ms) =
    let rest = least_of x ms in
    elim (cases_lt m (get_or (x ∷ ms) rest.at 0)) [
      | inl lt ↦ record { at = 0; within = omega arith; least = first_least m (x ∷ ms) (λ k l. omega (arith, lt, rest.least k l)) }
      | inr le ↦ record {
        at = suc rest.at;
        within = omega (arith, rest.within);
        least = later_least m (x ∷ ms) rest.at le rest.least;
      }
    ]

least_in : (ms : List ℕ) → 0 < length ms → position_or_len (λ m. list_all (nat_le m) ms) ms < length ms
least_in [] l = absurd (omega (arith, l))
least_in (m ∷ ms) l =
    let h = least_of m ms in
    elim (cases_lt (position_or_len (λ x. list_all (nat_le x) (m ∷ ms)) (m ∷ ms)) (length (m ∷ ms))) [
      | inl lt ↦ lt
      | inr le ↦ absurd (both_ways _
          (fails_before_first (λ x. list_all (nat_le x) (m ∷ ms)) (m ∷ ms) h.at 0 (omega (arith, le, h.within)))
          (list_all-from_AllPass (nat_le (get_or (m ∷ ms) h.at 0)) (m ∷ ms) (λ k d lk.
          le-leb _ _ (omega (arith, h.least k lk, get_or_default_zero (m ∷ ms) k d lk)))))
    ]

-- ---- what is left

module _ (sets : List MemberSet) (taken : List ℕ) (up : AreTakenUp sets taken) (some : length taken < length sets) where
  abbrev pub left : List ℕ
  left = left_of (length sets) taken

  pub some_left : 0 < length left
  some_left = omega (arith, some, whole_length (length sets) taken up.sound.within up.sound.once)

  pub within : ArePrecededWithin sets left
  within = record {
    there = λ j h. (passing_among (λ i. not (is_among taken i)) (length sets) j h).0;
    preceded = λ j h.
        let at = passing_among (λ i. not (is_among taken i)) (length sets) j h in
        let w = up.left j at.0 (not-true _ at.1) in
        has_any (λ i. relates sets i j) left w.member
        (among_passing (λ i. not (is_among taken i)) (length sets) w.member w.there (not_from_false _ w.left)) w.precedes;
  }

  module _ (walked : List ℕ) (from : ℕ) (round : IsRound sets left walked from) where
    pub walk_is_short : length walked ≤ length sets
    walk_is_short = walk_short sets left within walked _ round.is_walk

    pub ring_of : (cut : Cut) → ArePreceded cut sets → IsRingOf cut (from_least (reverse (drop from walked)))
    ring_of cut told =
        let remains : left ≡ remaining cut = ap (λ n. left_of n taken) told.count ∙ sym (remaining_is cut sets told taken up) in
        let back : IsRing cut (reverse (drop from walked)) = ring_of_walk cut sets left told within walked from round in
        record {
          is = ap (λ c. from_least (reverse c)) (sym (circuit_is cut sets left told remains within some_left walked from round));
          in_turn = ring_turned cut (reverse (drop from walked)) _ (least_in (reverse (drop from walked)) back.some) back;
        }
