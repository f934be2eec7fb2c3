-- Where no member remains, each member is taken out in some round, and after all that precede it.
use Rattle.std.proofs.Common.{◌≡◌, ℕ, zero, suc, ◌<◌, ◌≤◌, true, false, List, [], inl, inr, refl, subst, arith}
use Rattle.std.specs.Prelude.{if◌then◌else◌}
use Rattle.std.specs.List.{list_any}
use Rattle.std.proofs.lemmas.Bool.{cases_Bool}
use Rattle.plan_model.specs.declared.cut.Cut.{Cut}
use Rattle.plan_model.specs.Members.{precedes_somewhere}
use Rattle.plan_model.specs.Disorder.{preceded, after_rounds}
use Rattle.plan_model.proofs.MemberTests.{has, has_any, has-filter}

-- how many of n rounds a member is there
abbrev pub rounds : Cut → ℕ → List ℕ → ℕ → ℕ
rounds cut zero some j = 0
rounds cut (suc n) some j = if has some j then suc (rounds cut n (preceded cut some) j) else 0

pub most_rounds : (cut : Cut) (n : ℕ) (some : List ℕ) (j : ℕ) → rounds cut n some j ≤ n
most_rounds cut zero some j = omega arith
most_rounds cut (suc n) some j =
    elim (cases_Bool (has some j)) [
      | inl y ↦ rw y (omega (arith, most_rounds cut n (preceded cut some) j))
      | inr f ↦ rw f (omega arith)
    ]

no_round : (cut : Cut) (n : ℕ) (some : List ℕ) (j : ℕ) → has some j ≡ false → rounds cut n some j ≡ 0
no_round cut zero some j f = refl
no_round cut (suc n) some j f = rw f refl

some_round : (cut : Cut) (n : ℕ) (some : List ℕ) (j : ℕ) → after_rounds cut n some ≡ [] → has some j ≡ true
    → 0 < rounds cut n some j
some_round cut zero some j none y = absurd (let here = subst (λ s. has s j ≡ true) none y in cc)
some_round cut (suc n) some j none y = rw y (omega arith)

-- a member is there longer than one that precedes it
pub later_round : (cut : Cut) (n : ℕ) (some : List ℕ) (i j : ℕ) → after_rounds cut n some ≡ [] → has some i ≡ true
    → has some j ≡ true → precedes_somewhere cut i j ≡ true → rounds cut n some i < rounds cut n some j
later_round cut zero some i j none yi yj before = absurd (let here = subst (λ s. has s i ≡ true) none yi in cc)
later_round cut (suc n) some i j none yi yj before =
    let next = preceded cut some in
    let stays : has next j ≡ true =
    has-filter (λ k. list_any (λ h. precedes_somewhere cut h k) some) some j yj
    (has_any (λ h. precedes_somewhere cut h j) some i yi before) in
    elim (cases_Bool (has next i)) [
      | inl y ↦ rw (yi, yj) (omega (arith, later_round cut n next i j none y stays before))
      | inr f ↦ rw (yi, yj) (omega (arith, no_round cut n next i f, some_round cut n next j none stays))
    ]
