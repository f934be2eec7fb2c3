-- Members along an order, of which some are out of turn: the table of the last starts of the others, and what it tells.
use Rattle.std.proofs.Common.{◌≡◌, ℕ, ◌+◌, ◌<◌, true, false, ◌==◌, List, length, get_or, inl, inr, sym, ap, subst, ◌∙◌, arith}
use Rattle.std.specs.Prelude.{ℤ, Bool}
use Rattle.std.specs.List.Sorted.{IsPermutation}
use Rattle.std.proofs.lemmas.Bool.{cases_eq, cases_lt, and_parts, or_parts, eq-eqb, both_ways, false_from_ne_true}
use Rattle.rail_model.specs.declared.stair.Use.{Use}
use Rattle.plan_model.specs.declared.cut.Cut.{Cut}
use Rattle.plan_model.specs.Members.{member, member_count, members, uses_place, use_at, place_count, places, precedes, precedes_somewhere}
use Rattle.plan_model.specs.Cut.{IsSoundCut}
use Rattle.train_order.specs.declared.entry_order.Moment.{Moment}
use Rattle.train_order.specs.Sets.{holds}
use Rattle.train_order.specs.Visits.{is_earlier}
use Rattle.train_order.specs.EntryOrder.{AreInOrder, pair_of, last_at}
use Rattle.train_order.specs.OutOfTurn.{AreApart, IsInTurn, IsOutOfTurn, KeepTurn, Rise}
use Rattle.train_order.proofs.Apart.{below}
use Rattle.train_order.proofs.Users.{users}
use Rattle.train_order.proofs.Find.{find_some}
use Rattle.train_order.proofs.Before.{weak, earlier_is}
use Rattle.train_order.proofs.Following.{at_place}
use Rattle.train_order.proofs.InOrder.{stands, not_itself}

module _ (cut : Cut) (positions : List ℕ) where
  abbrev at : ℕ → ℕ
  at k = get_or positions k 0

  abbrev used : ℕ → ℕ → Bool
  used k place = uses_place (member cut (at k)) place

  abbrev start : ℕ → ℕ → ℤ × ℕ
  start k place = ((use_at (member cut (at k)) place).start, at k)

  -- of the first n members those in turn start no later than the last start of each place, and none of them precedes
  -- one that stands before it
  pub record HaveTurn (words : List ℕ) (n : ℕ) (last : List Moment) : Type 0 where
    pub count : length last ≡ place_count cut
    pub told : (k place : ℕ) → k < n → holds words (at k) ≡ false → used k place ≡ true
        → is_earlier (pair_of (last_at last place)) (start k place) ≡ false
    pub kept : (k l place : ℕ) → k < l → l < n → holds words (at k) ≡ false → holds words (at l) ≡ false
        → precedes (member cut (at l)) (member cut (at k)) place ≡ false

  pub turn_at_first : (words : List ℕ) (last : List Moment) → length last ≡ place_count cut → HaveTurn words 0 last
  turn_at_first words last count = record {
    count = count;
    told = λ k place l. absurd (omega (arith, l));
    kept = λ k l place lt ll. absurd (omega (arith, ll));
  }

  -- ---- one member more

  module _ (words more : List ℕ) (n : ℕ) (last after : List Moment) (same : length after ≡ length last) (rise : Rise last after)
      (so : HaveTurn words n last) where
    still : (k place : ℕ) → k < n → holds words (at k) ≡ false → used k place ≡ true
        → is_earlier (pair_of (last_at after place)) (start k place) ≡ false
    still k place l h q =
        weak.chain (pair_of (last_at after place)) (pair_of (last_at last place)) (start k place) (rise place) (so.told k place l h q)

    -- that is out of turn
    pub turn_without : IsOutOfTurn words more (at n) → HaveTurn more (n + 1) after
    turn_without put = record {
      count = same ∙ so.count;
      told = λ k place l h q. still k place (was k l h).0 (was k l h).1 q;
      kept = λ k l place lt ll hk hl. so.kept k l place lt (was l ll hl).0 (was k (omega (arith, lt, ll)) hk).1 (was l ll hl).1;
    } where
      was : (k : ℕ) → k < n + 1 → holds more (at k) ≡ false → (k < n) × (holds words (at k) ≡ false)
      was k l h =
          let parts = or_parts (at n == at k) (holds words (at k)) (sym (put (at k)) ∙ h) in
          elim (cases_eq k n) [
            | inl e ↦ absurd (both_ways _ parts.0 (eq-eqb (at n) (at k) (ap at (sym e))))
            | inr ne ↦ (omega (arith, l, ne), parts.1)
          ]

    -- that is in turn
    module _ (sound : IsSoundCut cut) (once : IsPermutation (members cut) positions) (here : n < length positions)
        (new : IsInTurn last after words more (at n) (member cut (at n)).uses) where
      newest : (k place : ℕ) → k < n → holds words (at k) ≡ false → precedes (member cut (at n)) (member cut (at k)) place ≡ false
      newest k place l h =
          false_from_ne_true _ (λ t.
          let both = users cut (at n) (at k) place t in
          let a = at_place (λ (u : Use). is_earlier (pair_of (last_at last u.block)) (u.start, at n) ≡ true) place
          (member cut (at n)).uses both.0 new.comes.later in
          let behind : is_earlier (pair_of (last_at last place)) (start n place) ≡ true =
          subst (λ m. is_earlier (pair_of (last_at last m)) (start n place) ≡ true) a.1 a.0 in
          let its : is_earlier (start n place) (start k place) ≡ true =
          sym (earlier_is cut sound (start n place).0 (start k place).0 (at n) (at k) (below cut positions once n 0 here)
          (below cut positions once k 0 (omega (arith, l, here))))
          ∙ (and_parts _ _ t).1 in
          both_ways _
          (weak.chain (start n place) (pair_of (last_at last place)) (start k place)
          (weak.one_way (pair_of (last_at last place)) (start n place) behind) (so.told k place l h both.1)) its)

      own : (place : ℕ) → used n place ≡ true → is_earlier (pair_of (last_at after place)) (start n place) ≡ false
      own place q =
          let a = at_place (λ (u : Use). is_earlier (pair_of (last_at after u.block)) (u.start, at n) ≡ false) place
          (member cut (at n)).uses q new.comes.last in
          subst (λ m. is_earlier (pair_of (last_at after m)) (start n place) ≡ false) a.1 a.0

      pub turn_with : HaveTurn more (n + 1) after
      turn_with = subst (λ ws. HaveTurn ws (n + 1) after) (sym new.same) (record {
        count = same ∙ so.count;
        told = λ k place l h q. elim (cases_eq k n) [
          | inl e ↦
              subst (λ m. is_earlier (pair_of (last_at after place)) (start m place) ≡ false) (sym e)
              (own place (subst (λ m. used m place ≡ true) e q))
          | inr ne ↦ still k place (omega (arith, l, ne)) h q
        ];
        kept = λ k l place lt ll hk hl. elim (cases_eq l n) [
          | inl e ↦
              subst (λ m. precedes (member cut (at m)) (member cut (at k)) place ≡ false) (sym e)
              (newest k place (omega (arith, lt, e)) hk)
          | inr ne ↦ so.kept k l place lt (omega (arith, ll, ne)) hk hl
        ];
      })

  -- ---- all members

  pub in_order : (words : List ℕ) → IsPermutation (members cut) positions → ((i : ℕ) → i < member_count cut → holds words i ≡ false)
      → KeepTurn cut positions words → AreInOrder cut positions
  in_order words once none kept k l place lt ll =
      kept k l place lt ll (none (at k) (below cut positions once k 0 (omega (arith, lt, ll)))) (none (at l) (below cut positions once l 0 ll))

  module _ (words : List ℕ) (sound : IsSoundCut cut) (once : IsPermutation (members cut) positions)
      (kept : KeepTurn cut positions words) where
    none_back : (i j a b : ℕ) → at a ≡ i → at b ≡ j → holds words i ≡ false → holds words j ≡ false → a < b
        → b < length positions → precedes_somewhere cut j i ≡ true → ⊥
    none_back i j a b ea eb hi hj lt lb h =
        let some = find_some (precedes (member cut j) (member cut i)) (places cut) h in
        let never : precedes (member cut j) (member cut i) some.0 ≡ false =
        subst (λ m. precedes (member cut m) (member cut i) some.0 ≡ false) eb
        (subst (λ m. precedes (member cut (at b)) (member cut m) some.0 ≡ false) ea
        (kept a b some.0 lt lb (subst (λ m. holds words m ≡ false) (sym ea) hi) (subst (λ m. holds words m ≡ false) (sym eb) hj))) in
        both_ways _ never some.3

    pub are_apart : AreApart cut words
    are_apart i j li lj hi hj =
        false_from_ne_true _ (λ h.
        let parts = and_parts (precedes_somewhere cut i j) (precedes_somewhere cut j i) h in
        let a = stands cut positions once i li in
        let b = stands cut positions once j lj in
        elim (cases_lt a.at b.at) [
          | inl l ↦ none_back i j a.at b.at a.is b.is hi hj l b.within parts.1
          | inr ge ↦ elim (cases_eq a.at b.at) [
            | inl e ↦
                let same : j ≡ i = sym b.is ∙ ap at (sym e) ∙ a.is in
                let some = find_some (precedes (member cut i) (member cut j)) (places cut) parts.0 in
                not_itself cut positions once sound i some.0 li
                (subst (λ m. precedes (member cut i) (member cut m) some.0 ≡ true) same some.3)
            | inr ne ↦ none_back j i b.at a.at b.is a.is hj hi (omega (arith, ge, ne)) a.within parts.0
          ]
        ])
