-- The walk to the first member that comes a second time.
use Rattle.std.proofs.Common.{◌≡◌, ℕ, zero, suc, ◌+◌, ◌-◌, ◌<◌, ◌≤◌, true, false, not, ◌==◌, List, [], ◌∷◌, ◌++◌, length, take, drop, get_or, inl, inr, refl, sym, ap, subst, ◌∙◌, arith, length-append}
use Rattle.std.specs.Prelude.{find, unwrap_or}
use Rattle.std.specs.List.{position_or_len, All}
use Rattle.std.proofs.lemmas.Bool.{cases_eq, eqb-true, eq-eqb, ne_eqb, both_ways, false_from_ne_true}
use Rattle.std.proofs.lemmas.List.Elements.{All-from_get_or}
use Rattle.std.proofs.lemmas.List.{take_more, take_all, get_or-take, length-take-le, get_or_append_left, get_or-append_right}
use Rattle.std.proofs.lemmas.List.Folds.{list_any_at}
use Rattle.std.proofs.lemmas.List.Sums.{position_or_len_is, passes_at_first, fails_before_first, prefix_len-le-length}
use Rattle.plan_model.specs.declared.cut.Cut.{Cut}
use Rattle.plan_model.specs.Members.{member_count, precedes_somewhere}
use Rattle.plan_model.specs.Disorder.{remaining, predecessor, circuit}
use Rattle.train_order.specs.declared.member_set.MemberSet.{MemberSet}
use Rattle.train_order.specs.Sets.{relates, ArePreceded}
use Rattle.train_order.specs.Taking.{is_among}
use Rattle.train_order.specs.Walk.{step, steps, ArePrecededWithin, IsWalk, IsRound}
use Rattle.train_order.proofs.Find.{find_agree, find_some}
use Rattle.train_order.proofs.Among.{among_at, stands_at, distinct_more, not_before}
use Rattle.train_order.proofs.Whole.{whole_length}

-- ---- searches

-- where a member comes first in a walk, or that it doesn't
pub place_within : (walk : List ℕ) (m : ℕ) → position_or_len (λ k. k == m) walk ≤ length walk
place_within walk m = prefix_len-le-length (λ k. not (k == m)) walk

pub not_there : (walk : List ℕ) (m : ℕ) → position_or_len (λ k. k == m) walk ≡ length walk → is_among walk m ≡ false
not_there walk m e =
    false_from_ne_true (is_among walk m) (λ h.
    let s = stands_at walk m h in
    both_ways _ (fails_before_first (λ k. k == m) walk s.at 0 (omega (arith, s.within, e))) (eq-eqb _ m s.is))

pub came_there : (walk : List ℕ) (m at : ℕ) → at ≡ position_or_len (λ k. k == m) walk → (at ≡ length walk → ⊥)
    → (at < length walk) × (get_or walk at 0 ≡ m)
came_there walk m at e ne =
    let l : at < length walk = omega (arith, e, ne, place_within walk m) in
    (l, ap (λ k. get_or walk k 0) e ∙ eqb-true _ m (passes_at_first (λ k. k == m) walk 0 (omega (arith, l, e))))

-- ---- steps

module _ (sets : List MemberSet) (left : List ℕ) where
  abbrev first : ℕ
  first = get_or left 0 0

  module _ (preceded : ArePrecededWithin sets left) where
    pub step_in : (j : ℕ) → is_among left j ≡ true
        → (is_among left (step sets left j) ≡ true) × (relates sets (step sets left j) j ≡ true)
    step_in j h =
        let r = find_some (λ i. relates sets i j) left (preceded.preceded j h) in
        let is : step sets left j ≡ r.0 = ap (λ o. unwrap_or o j) r.1 in
        (ap (is_among left) is ∙ r.2, ap (λ i. relates sets i j) is ∙ r.3)

    pub walk_first : 0 < length left → IsWalk sets left [] first
    walk_first l = record {
      once = tt;
      within = λ k lk. absurd (omega (arith, lk));
      each = λ k lk. absurd (omega (arith, lk));
      after_within = among_at left 0 first l refl;
      after_is = refl;
    }

    pub walk_more : (walk : List ℕ) (after : ℕ) → IsWalk sets left walk after → is_among walk after ≡ false
        → IsWalk sets left (walk ++ after ∷ []) (step sets left after)
    walk_more walk after so_far fresh =
        let long : length (walk ++ after ∷ []) ≡ length walk + 1 = length-append walk (after ∷ []) in
        let last : get_or (walk ++ after ∷ []) (length walk) 0 ≡ after =
        get_or-append_right walk (after ∷ []) (length walk) (length walk) 0 refl (omega arith)
        ∙ ap (λ k. get_or (after ∷ []) k 0) (let z : length walk - length walk ≡ 0 = omega arith in z) in
        let on : (P : ℕ → ℕ → Type 0) → ((k : ℕ) → k < length walk → P k (get_or walk k 0)) → P (length walk) after
        → (k : ℕ) → k < length (walk ++ after ∷ []) → P k (get_or (walk ++ after ∷ []) k 0) =
        λ P old new k lk. elim (cases_eq k (length walk)) [
          | inl e ↦ subst (λ m. P m (get_or (walk ++ after ∷ []) m 0)) (sym e) (subst (P (length walk)) (sym last) new)
          | inr ne ↦
              let lo : k < length walk = omega (arith, lk, long, ne) in
              subst (P k) (sym (get_or_append_left walk (after ∷ []) 0 k lo)) (old k lo)
        ] in
        record {
          once = distinct_more walk after so_far.once fresh;
          within = on (λ k m. is_among left m ≡ true) so_far.within so_far.after_within;
          each = on (λ k m. m ≡ steps sets left k first) so_far.each so_far.after_is;
          after_within = (step_in after so_far.after_within).0;
          after_is = ap (step sets left) so_far.after_is ∙ ap (λ k. steps sets left k first) (let e : suc (length walk) ≡ length (walk ++ after ∷ []) = omega (arith, long) in e);
        }

    pub walk_short : (walk : List ℕ) (after : ℕ) → IsWalk sets left walk after → length walk ≤ length sets
    walk_short walk after so_far =
        let there : All (λ k. k < length sets) walk =
        All-from_get_or (λ k. k < length sets) walk 0 (λ k lk. preceded.there _ (so_far.within k lk)) in
        omega (arith, whole_length (length sets) walk there so_far.once)

-- ---- the definition's walk

module _ (cut : Cut) (sets : List MemberSet) (left : List ℕ) (told : ArePreceded cut sets)
    (remains : left ≡ remaining cut) (preceded : ArePrecededWithin sets left) where
  step_is : (j : ℕ) → is_among left j ≡ true → predecessor cut j ≡ step sets left j
  step_is j h =
      ap (λ rs. unwrap_or (find (λ i. precedes_somewhere cut i j) rs) j) (sym remains)
      ∙ ap (λ o. unwrap_or o j) (find_agree (λ i. precedes_somewhere cut i j) (λ i. relates sets i j) left (λ k d l.
      let there = preceded.there (get_or left k d) (list_any_at _ left k d l (eq-eqb _ _ refl)) in
      sym (told.each (get_or left k d) j (omega (arith, there, told.count)) (omega (arith, preceded.there j h, told.count)))))

  module _ (some : 0 < length left) (walked : List ℕ) (from : ℕ) (round : IsRound sets left walked from) where
    abbrev last : ℕ
    last = length walked

    abbrev at : ℕ → ℕ
    at k = steps sets left k (get_or left 0 0)

    is_at : (k : ℕ) → k < last → at k ≡ get_or walked k 0
    is_at k l = sym (round.is_walk.each k l)

    came_at : position_or_len (λ m. m == get_or walked from 0) walked ≡ from
    came_at =
        position_or_len_is (λ m. m == get_or walked from 0) walked from 0 (omega (arith, round.came))
        (λ k l. ne_eqb _ _ (λ e. both_ways _ (not_before walked from round.is_walk.once round.came)
        (among_at (take from walked) k (get_or walked from 0) (omega (arith, l, length-take-le from walked (omega (arith, round.came))))
        (get_or-take from walked k 0 l ∙ e))))
        (λ l. eq-eqb _ _ refl)

    -- at the end the walk comes back
    back : (n : ℕ) → circuit cut (suc n) walked (get_or walked from 0) ≡ drop from walked
    back n =
        let t : is_among walked (get_or walked from 0) ≡ true = among_at walked from _ round.came refl in
        rw t (ap (λ a. drop a walked) came_at)

    -- before that it goes on
    further : (n k : ℕ) → k < last
        → circuit cut (suc n) (take k walked) (at k) ≡ circuit cut n (take (suc k) walked) (at (suc k))
    further n k l =
        let fresh : is_among (take k walked) (at k) ≡ false =
        ap (is_among (take k walked)) (is_at k l) ∙ not_before walked k round.is_walk.once l in
        let more : take k walked ++ at k ∷ [] ≡ take (suc k) walked =
        ap (λ m. take k walked ++ m ∷ []) (is_at k l) ∙ sym (take_more walked k 0 l)
        ∙ ap (λ m. take m walked) (let e : k + 1 ≡ suc k = omega arith in e) in
        rw fresh (ap (λ w. circuit cut n w (predecessor cut (at k))) more
        ∙ ap (circuit cut n (take (suc k) walked)) (step_is (at k) (ap (is_among left) (is_at k l) ∙ round.is_walk.within k l)))

    all_round : (n k : ℕ) → k ≤ last → last < n + k → circuit cut n (take k walked) (at k) ≡ drop from walked
    all_round zero k le l = absurd (omega (arith, le, l))
    all_round (suc n) k le l =
        elim (cases_eq k last) [
          | inr ne ↦ further n k (omega (arith, le, ne)) ∙ all_round n (suc k) (omega (arith, le, ne)) (omega (arith, l))
          | inl e ↦
              ap (λ w. circuit cut (suc n) w (at k)) (take_all k walked (omega (arith, e)))
              ∙ ap (circuit cut (suc n) walked) (ap at e ∙ sym round.is_walk.after_is) ∙ back n
        ]

    pub circuit_is : circuit cut (member_count cut + 1) [] (get_or (remaining cut) 0 0) ≡ drop from walked
    circuit_is =
        ap (λ rs. circuit cut (member_count cut + 1) [] (get_or rs 0 0)) (sym remains)
        ∙ all_round (member_count cut + 1) 0 (omega arith)
        (omega (arith, walk_short sets left preceded walked (get_or walked from 0) round.is_walk, told.count))
