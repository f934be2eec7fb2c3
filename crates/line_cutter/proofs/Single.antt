-- A sound cut with one place is orderly: its members come one after the other there, by start and, at one moment, by name.
use Rattle.std.proofs.Common.{◌≡◌, ◌⊎◌, ℕ, zero, suc, ◌<◌, ◌≤◌, true, List, [], ◌∷◌, ◌&&◌, inl, inr, refl, subst, arith}
use Rattle.std.specs.Prelude.{ℤ, pos, ◌+ℤ◌, ◌<ℤ◌, ◌≤ℤ◌, int_lt}
use Rattle.std.specs.Ordering.{int_eq}
use Rattle.std.proofs.lemmas.Int.{ints}
use Rattle.std.proofs.lemmas.Bool.{and_parts, or_cases, or_left, both_ways, cases_order, eq-eqb}
use Rattle.std.proofs.lemmas.Bool.Decides.{Decides-int_eq}
use Rattle.rail_model.specs.Name.{is_before}
use Rattle.rail_model.proofs.NameOrder.{is_before-itself, is_before-back}
use Rattle.rail_model.proofs.Numbers.{lt_from_test}
use Rattle.plan_model.specs.declared.cut.Cut.{Cut}
use Rattle.plan_model.specs.Members.{place_count, member, member_count, no_member, uses_place, use_at, precedes, precedes_somewhere}
use Rattle.plan_model.specs.Disorder.{remaining}
use Rattle.plan_model.specs.Cut.{IsMoment, IsSoundCut}
use Rattle.plan_model.proofs.MemberTests.{has}
use Rattle.plan_model.proofs.Sound.{use_sound}
use Rattle.critical_chain.proofs.Opposite.{ordered_is_not_opposite}
use Rattle.line_cutter.specs.Cutting.{IsOrderly}
use Rattle.line_cutter.proofs.Remaining.{remaining_there, remaining_preceded}
use Rattle.line_cutter.proofs.Whole.{some_below}

-- where each member that precedes another has the lesser time or, at one time, the lesser position, none remains
abbrev Rises : Cut → (ℕ → ℤ) → Type 0
Rises cut time =
    (i j : ℕ) → i < member_count cut → j < member_count cut → precedes_somewhere cut i j ≡ true
    → (time i <ℤ time j) ⊎ ((time i ≡ time j) × (i < j))

module _ (cut : Cut) (time : ℕ → ℤ) (rises : Rises cut time) (from : (j : ℕ) → has (remaining cut) j ≡ true → pos 0 ≤ℤ time j) where
  at_time : (n : ℕ) → ((j : ℕ) → has (remaining cut) j ≡ true → time j <ℤ pos n → ⊥) → (m j : ℕ) → j ≤ m
      → has (remaining cut) j ≡ true → time j ≤ℤ pos n → ⊥
  at_time n earlier zero j le h to =
      let by = remaining_preceded cut j h in
      elim (rises by.0 j (remaining_there cut by.0 by.1) (remaining_there cut j h) by.2) [
        | inl l ↦ earlier by.0 by.1 (omega (arith, ints, l, to))
        | inr e ↦ absurd (omega (arith, le, e.1))
      ]
  at_time n earlier (suc m) j le h to =
      let by = remaining_preceded cut j h in
      elim (rises by.0 j (remaining_there cut by.0 by.1) (remaining_there cut j h) by.2) [
        | inl l ↦ earlier by.0 by.1 (omega (arith, ints, l, to))
        | inr e ↦ at_time n earlier m by.0 (omega (arith, le, e.1)) by.1 (omega (arith, ints, e.0, to))
      ]

  by_time : (n j : ℕ) → has (remaining cut) j ≡ true → time j <ℤ pos n → ⊥
  by_time zero j h to = let least = from j h in omega (arith, ints, least, to)
  by_time (suc n) j h to = at_time n (by_time n) j j (omega arith) h (omega (arith, ints, to))

  none_remains : (n : ℕ) → ((j : ℕ) → has (remaining cut) j ≡ true → time j <ℤ pos n) → (left : List ℕ)
      → remaining cut ≡ left → left ≡ []
  none_remains n to [] e = refl
  none_remains n to (k ∷ left) e =
      let first : has (k ∷ left) k ≡ true = or_left _ _ (eq-eqb k k refl) in
      let h : has (remaining cut) k ≡ true = rw e first in
      absurd (by_time n k h (to k h))

module _ (cut : Cut) (sound : IsSoundCut cut) (one : place_count cut ≡ 1) where
  abbrev time : ℕ → ℤ
  time i = (use_at (member cut i) 0).start +ℤ pos 50000000

  there : (i j : ℕ) → precedes_somewhere cut i j ≡ true → precedes (member cut i) (member cut j) 0 ≡ true
  there i j h =
      let some = some_below (precedes (member cut i) (member cut j)) (place_count cut) h in
      let first : some.0 ≡ 0 = omega (arith, some.1, one) in
      subst (λ p. precedes (member cut i) (member cut j) p ≡ true) first some.2

  lesser : (i j : ℕ) → i < member_count cut → is_before (member cut i).name (member cut j).name ≡ true → i < j
  lesser i j l h =
      elim (cases_order i j) [
        | inl e ↦
            absurd (both_ways (is_before (member cut j).name (member cut j).name) (is_before-itself (member cut j).name)
            (subst (λ k. is_before (member cut k).name (member cut j).name ≡ true) e h))
        | inr d ↦ elim d [
          | inl less ↦ less
          | inr more ↦
              absurd (both_ways (is_before (member cut i).name (member cut j).name)
              (is_before-back (member cut j).name (member cut i).name (sound.names_rise j i no_member more l)) h)
        ]
      ]

  rises : Rises cut time
  rises i j li lj h =
      let s = (use_at (member cut i) 0).start in
      let t = (use_at (member cut j) 0).start in
      let named = is_before (member cut i).name (member cut j).name in
      elim (or_cases (int_lt s t) (int_eq s t && named) (and_parts _ _ (there i j h)).1) [
        | inl l ↦ let less = lt_from_test s t l in inl (omega (arith, ints, less))
        | inr e ↦
            let both = and_parts (int_eq s t) named e in
            let same = (Decides-int_eq s t).0 both.0 in
            inr (omega (arith, ints, same), lesser i j li both.1)
      ]

  moment : (j : ℕ) → has (remaining cut) j ≡ true → (pos 0 ≤ℤ time j) × (time j <ℤ pos 100000001)
  moment j h =
      let by = remaining_preceded cut j h in
      let a = member cut by.0 in
      let b = member cut j in
      let uses : uses_place b 0 ≡ true =
      (and_parts (uses_place a 0) (uses_place b 0) (and_parts (uses_place a 0 && uses_place b 0) _ (there by.0 j by.2)).0).1 in
      let m : IsMoment (use_at b 0).start = (use_sound cut sound j (remaining_there cut j h) 0 uses).starts in
      (omega (arith, ints, m.after), omega (arith, ints, m.before))

  pub single : IsOrderly cut
  single =
      let none = none_remains cut time rises (λ j h. (moment j h).0) 100000001 (λ j h. (moment j h).1) (remaining cut) refl in
      record { not_opposite = ordered_is_not_opposite cut none; none_remains = none }
