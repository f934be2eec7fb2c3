-- The members that are not taken up are those that remain after all rounds.
use Rattle.std.proofs.Common.{◌≡◌, ◌≢◌, ℕ, zero, suc, ◌+◌, ◌<◌, Bool, true, false, not, ◌&&◌, List, [], ◌∷◌, ◌++◌, length, get_or, inl, inr, refl, sym, ap, subst, ◌∙◌, arith}
use Rattle.std.specs.Prelude.{filter}
use Rattle.std.specs.List.{list_any, range_with_len}
use Rattle.std.specs.List.Sorted.{IsPermutation}
use Rattle.std.proofs.lemmas.Bool.{cases_Bool, both_ways, false_from_ne_true, not_from_true, not_from_false}
use Rattle.std.proofs.lemmas.List.{append-nil}
use Rattle.plan_model.specs.declared.cut.Cut.{Cut}
use Rattle.plan_model.specs.Members.{member_count, members, precedes_somewhere}
use Rattle.plan_model.specs.Disorder.{preceded, after_rounds, remaining}
use Rattle.plan_model.proofs.MemberTests.{has-range, in_range, has_any, has-filter, filter-has}
use Rattle.train_order.specs.declared.member_set.MemberSet.{MemberSet}
use Rattle.train_order.specs.Ordering.{StandsBefore, IsOrder}
use Rattle.train_order.specs.Sets.{relates, ArePreceded}
use Rattle.train_order.specs.Taking.{is_among, AreTakenUp}
use Rattle.train_order.proofs.Find.{find_some}
use Rattle.train_order.proofs.Among.{stands_at, first_among, among_passing, passing_among}
use Rattle.train_order.proofs.Ranges.{same_passing}
use Rattle.train_order.proofs.Whole.{twice, all_pass, left_of, all_there, whole_length}

module _ (cut : Cut) (sets : List MemberSet) (told : ArePreceded cut sets) (taken : List ℕ) (up : AreTakenUp sets taken) where
  abbrev n : ℕ
  n = member_count cut

  -- what stands after m rounds: the first m that were taken up are gone, and those that weren't are there
  record IsLeft (m : ℕ) (some : List ℕ) : Type 0 where
    gone : (k : ℕ) → k < m → k < length taken → is_among some (get_or taken k 0) ≡ false
    kept : (j : ℕ) → j < n → is_among taken j ≡ false → is_among some j ≡ true
    below : (j : ℕ) → is_among some j ≡ true → j < n
    test : ℕ → Bool
    tested : some ≡ filter test (members cut)

  at_first : IsLeft 0 (members cut)
  at_first = record {
    gone = λ k l lk. absurd (omega (arith, l));
    kept = λ j l out. has-range n j l;
    below = λ j h. omega (arith, in_range 0 n j h);
    test = λ i. true;
    tested = sym (all_pass (λ i. true) 0 n (λ i. refl));
  }

  abbrev is_preceded : List ℕ → ℕ → Bool
  is_preceded some j = list_any (λ i. precedes_somewhere cut i j) some

  gone_then : (m : ℕ) (some : List ℕ) → IsLeft m some → (k : ℕ) → k < suc m → k < length taken
      → is_among (preceded cut some) (get_or taken k 0) ≡ true → ⊥
  gone_then m some left k l lk h =
      let j = get_or taken k 0 in
      let here = filter-has (is_preceded some) some j h in
      let one = find_some (λ i. precedes_somewhere cut i j) some here.1 in
      let i = one.0 in
      let li : i < n = left.below i one.2 in
      let lj : j < n = left.below j here.0 in
      let related : relates sets i j ≡ true = told.each i j li lj ∙ one.3 in
      let before = first_among taken k i (omega arith) (up.sound.after k i lk (omega (arith, li, told.count)) related) in
      both_ways (is_among some i) (subst (λ x. is_among some x ≡ false) before.2 (left.gone before.0 (omega (arith, before.1)) (omega (arith, before.1)))) one.2

  kept_then : (m : ℕ) (some : List ℕ) → IsLeft m some → (j : ℕ) → j < n → is_among taken j ≡ false
      → is_among (preceded cut some) j ≡ true
  kept_then m some left j l out =
      let w = up.left j (omega (arith, l, told.count)) out in
      let lw : w.member < n = omega (arith, w.there, told.count) in
      has-filter (is_preceded some) some j (left.kept j l out)
      (has_any (λ i. precedes_somewhere cut i j) some w.member (left.kept w.member lw w.left) (sym (told.each w.member j lw l) ∙ w.precedes))

  round : (m : ℕ) (some : List ℕ) → IsLeft m some → IsLeft (suc m) (preceded cut some)
  round m some left = record {
    gone = λ k l lk. false_from_ne_true _ (gone_then m some left k l lk);
    kept = kept_then m some left;
    below = λ j h. left.below j (filter-has (is_preceded some) some j h).0;
    test = λ i. left.test i && is_preceded some i;
    tested = ap (filter (is_preceded some)) left.tested ∙ twice left.test (is_preceded some) (members cut);
  }

  rounds : (r m : ℕ) (some : List ℕ) → IsLeft m some → IsLeft (m + r) (after_rounds cut r some)
  rounds zero m some left = subst (λ k. IsLeft k some) (let e : m ≡ m + 0 = omega arith in e) left
  rounds (suc r) m some left =
      subst (λ k. IsLeft k (after_rounds cut r (preceded cut some))) (let e : suc m + r ≡ m + suc r = omega arith in e)
      (rounds r (suc m) (preceded cut some) (round m some left))

  few : length taken + length (left_of n taken) ≡ n
  few = subst (λ k. length taken + length (left_of k taken) ≡ k) told.count (whole_length (length sets) taken up.sound.within up.sound.once)

  pub remaining_is : remaining cut ≡ left_of n taken
  remaining_is =
      let last = rounds n 0 (members cut) at_first in
      last.tested ∙ same_passing (λ i. not (is_among taken i)) last.test 0 n (λ j lz l.
      elim (cases_Bool (is_among taken j)) [
        | inl there ↦
            let s = stands_at taken j there in
            let gone : is_among (remaining cut) j ≡ false =
            subst (λ x. is_among (remaining cut) x ≡ false) s.is (last.gone s.at (omega (arith, s.within, few)) s.within) in
            false_from_ne_true (last.test j) (λ t. both_ways _ gone
            (ap (λ xs. is_among xs j) last.tested ∙ among_passing last.test n j (omega arith) t)) ∙ sym (not_from_true _ there)
        | inr out ↦
            (passing_among last.test n j (sym (ap (λ xs. is_among xs j) last.tested) ∙ last.kept j (omega arith) out)).1
            ∙ sym (not_from_false _ out)
      ])

  -- ---- all are taken up

  nothing : (some : List ℕ) → length some ≡ 0 → some ≡ []
  nothing [] e = refl
  nothing (k ∷ some) e = absurd (omega (arith, e))

  pub some_remain : length taken < length sets → remaining cut ≢ []
  some_remain l e = omega (arith, l, few, told.count, ap length (sym remaining_is ∙ e))

  module _ (whole : length taken ≡ length sets) where
    none_left : left_of n taken ≡ []
    none_left = nothing (left_of n taken) (omega (arith, few, whole, told.count))

    each_there : (j : ℕ) → j < n → is_among taken j ≡ true
    each_there j l =
        elim (cases_Bool (is_among taken j)) [
          | inl t ↦ t
          | inr f ↦ absurd (
              let there : is_among (left_of n taken) j ≡ true = among_passing (λ i. not (is_among taken i)) n j l (not_from_false _ f) in
              let none : is_among (left_of n taken) j ≡ false = ap (λ xs. is_among xs j) none_left in
              both_ways _ none there
              )
        ]

    stand : (i j : ℕ) → i < n → j < n → precedes_somewhere cut i j ≡ true → StandsBefore taken i j
    stand i j li lj p =
        let s = stands_at taken j (each_there j lj) in
        let related : relates sets i (get_or taken s.at 0) ≡ true =
        subst (λ x. relates sets i x ≡ true) (sym s.is) (told.each i j li lj ∙ p) in
        let before = first_among taken s.at i (omega (arith, s.within)) (up.sound.after s.at i s.within (omega (arith, li, told.count)) related) in
        record { at = before.0; next = s.at; before = before.1; within = s.within; one = before.2; other = s.is }

    pub is_order : IsOrder cut taken
    is_order = record {
      each_once =
          subst (λ xs. IsPermutation (members cut) xs) (ap (λ xs. taken ++ xs) none_left ∙ append-nil taken)
          (subst (λ k. IsPermutation (range_with_len 0 k) (taken ++ left_of k taken)) told.count (all_there (length sets) taken up.sound.within up.sound.once));
      before = stand;
    }
