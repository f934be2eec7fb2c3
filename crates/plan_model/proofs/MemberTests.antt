-- Tests of all members, of some, and of all places that a member uses.
use Rattle.std.proofs.Common.{zero, suc, ◌+◌, ◌≡◌, ℕ, ◌<◌, Bool, true, List, [], ◌∷◌, get_or, ◌∙◌, sym, ap, subst, inl, inr, arith}
use Rattle.std.specs.Prelude.{◌==◌, filter}
use Rattle.std.specs.List.{list_all, list_any, range_with_len}
use Rattle.std.proofs.lemmas.Bool.{cases_Bool, eqb-true, eq-eqb, or_left, or_right, or_cases}
use Rattle.std.proofs.lemmas.List.Sums.{AllPass-from_list_all}
use Rattle.std.proofs.lemmas.List.Folds.{Any-from_list_any, list_any_at}
use Rattle.std.proofs.lemmas.List.FromFn.{length-range_with_len, get_or-range_with_len}
use Rattle.rail_model.specs.declared.stair.Use.{Use}
use Rattle.plan_model.specs.declared.cut.CutRow.{CutRow}
use Rattle.plan_model.specs.declared.cut.Cut.{Cut}
use Rattle.plan_model.specs.Members.{member_count, members, uses_place}

position : (cut : Cut) (i : ℕ) → i < member_count cut → get_or (members cut) i 0 ≡ i
position cut i l = get_or-range_with_len 0 (member_count cut) i 0 l ∙ omega arith

-- what a test finds of all members holds of each
pub at_member : (cut : Cut) (test : ℕ → Bool) (i : ℕ) → list_all test (members cut) ≡ true → i < member_count cut
    → test i ≡ true
at_member cut test i h l =
    let long = length-range_with_len 0 (member_count cut) in
    subst (λ k. test k ≡ true) (position cut i l) (AllPass-from_list_all test (members cut) h i 0 (omega arith))

-- what a test finds of some member holds of one
pub some_member : (cut : Cut) (test : ℕ → Bool) → list_any test (members cut) ≡ true
    → (i : ℕ) × (i < member_count cut) × (test i ≡ true)
some_member cut test h =
    let some = Any-from_list_any test (members cut) h in
    let here : some.0 < member_count cut = omega (arith, some.2, length-range_with_len 0 (member_count cut)) in
    let at : get_or (members cut) some.0 some.1 ≡ some.0 =
    get_or-range_with_len 0 (member_count cut) some.0 some.1 here ∙ omega arith in
    (some.0, here, subst (λ k. test k ≡ true) (sym some.3 ∙ at) some.4)

-- what a test finds of the places of all uses holds of each place that is used
pub at_use : (row : CutRow) (test : ℕ → Bool) (place : ℕ) → list_all (λ (u : Use). test u.block) row.uses ≡ true
    → uses_place row place ≡ true → test place ≡ true
at_use row test place h used =
    let some = Any-from_list_any (λ (u : Use). u.block == place) row.uses used in
    let is : some.1.block ≡ place = eqb-true some.1.block place some.4 in
    subst (λ p. test p ≡ true) is
    (subst (λ (u : Use). test u.block ≡ true) some.3
    (AllPass-from_list_all (λ (u : Use). test u.block) row.uses h some.0 some.1 some.2))

-- ---- whether a number is among some

abbrev pub has : List ℕ → ℕ → Bool
has some i = list_any (λ k. k == i) some

pub has-range : (n i : ℕ) → i < n → has (range_with_len 0 n) i ≡ true
has-range n i l =
    let long = length-range_with_len 0 n in
    let at : get_or (range_with_len 0 n) i 0 ≡ i = get_or-range_with_len 0 n i 0 l ∙ omega arith in
    list_any_at (λ k. k == i) (range_with_len 0 n) i 0 (omega arith) (eq-eqb _ i at)

pub in_range : (a n i : ℕ) → has (range_with_len a n) i ≡ true → i < a + n
in_range a zero i h = absurd (cc)
in_range a (suc n) i h =
    elim (or_cases (a == i) (has (range_with_len (a + 1) n) i) h) [
      | inl e ↦ omega (arith, eqb-true a i e)
      | inr e ↦ omega (arith, in_range (a + 1) n i e)
    ]

-- one of some that pass a test shows that some do
pub has_any : (test : ℕ → Bool) (some : List ℕ) (i : ℕ) → has some i ≡ true → test i ≡ true
    → list_any test some ≡ true
has_any test some i h p =
    let at = Any-from_list_any (λ k. k == i) some h in
    let is : at.1 ≡ i = eqb-true at.1 i at.4 in
    list_any_at test some at.0 at.1 at.2 (subst (λ k. test k ≡ true) (sym is ∙ sym at.3) p)

-- one of some that passes a test stands among those that do
pub has-filter : (test : ℕ → Bool) (some : List ℕ) (i : ℕ) → has some i ≡ true → test i ≡ true
    → has (filter test some) i ≡ true
has-filter test [] i h p = absurd (cc)
has-filter test (k ∷ some) i h p =
    elim (cases_Bool (k == i)) [
      | inl e ↦
          let is : k ≡ i = eqb-true k i e in
          let passes : test k ≡ true = ap test is ∙ p in
          rw passes (or_left (k == i) (has (filter test some) i) e)
      | inr n ↦
          let rest : has some i ≡ true = rw n at h in
          elim (cases_Bool (test k)) [
            | inl passes ↦ rw passes (rw n (has-filter test some i rest p))
            | inr fails ↦ rw fails (has-filter test some i rest p)
          ]
    ]

pub filter-has : (test : ℕ → Bool) (some : List ℕ) (i : ℕ) → has (filter test some) i ≡ true
    → (has some i ≡ true) × (test i ≡ true)
filter-has test [] i h = absurd (cc)
filter-has test (k ∷ some) i h =
    elim (cases_Bool (test k)) [
      | inr fails ↦
          let rest = filter-has test some i (rw fails at h) in
          (or_right (k == i) (has some i) rest.0, rest.1)
      | inl passes ↦
          elim (or_cases (k == i) (has (filter test some) i) (rw passes at h)) [
            | inl e ↦ (or_left (k == i) (has some i) e, subst (λ m. test m ≡ true) (eqb-true k i e) passes)
            | inr e ↦ let rest = filter-has test some i e in (or_right (k == i) (has some i) rest.0, rest.1)
          ]
    ]
