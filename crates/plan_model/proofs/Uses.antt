-- The use of a place that a member uses: one of its uses, which in a sound cut takes some time.
use Rattle.std.proofs.Common.{◌≡◌, ℕ, suc, ◌<◌, Bool, true, List, [], ◌∷◌, length, get_or, inl, inr, refl, ap, subst, ◌∙◌, arith}
use Rattle.std.specs.Prelude.{ℤ, ◌<ℤ◌, ◌==◌, Option, Some, find, unwrap_or}
use Rattle.std.specs.Option.{is_some}
use Rattle.std.specs.List.{list_any}
use Rattle.std.proofs.lemmas.Bool.{cases_Bool, eqb-true}
use Rattle.std.proofs.lemmas.Int.{ints}
use Rattle.std.proofs.lemmas.List.Folds.{Any-from_list_any}
use Rattle.plan_model.specs.Members.{place_count, member, member_count, no_member, uses_place, use_of, use_at, no_use}
use Rattle.rail_model.specs.declared.stair.Use.{Use}
use Rattle.plan_model.specs.declared.cut.CutRow.{CutRow}
use Rattle.plan_model.specs.declared.cut.Cut.{Cut}
use Rattle.plan_model.specs.Cut.{IsSoundCut}
use Rattle.plan_model.specs.Schedule.{start_at, end_at}

-- what passes a test is found at some place
found_there : {X : Type 0} (test : X → Bool) (xs : List X) (none : X) → list_any test xs ≡ true
    → (k : ℕ) × (k < length xs) × (get_or xs k none ≡ unwrap_or (find test xs) none)
found_there test [] none h = absurd (cc)
found_there test (x ∷ xs) none h =
    elim (cases_Bool (test x)) [
      | inl e ↦ (0, omega arith, rw e refl)
      | inr e ↦
          let rest = found_there test xs none (rw e at h) in
          (suc rest.0, omega (arith, rest.1), rw e rest.2)
    ]

-- a use of a sound cut takes some time
pub takes_time : (cut : Cut) → IsSoundCut cut → (i place : ℕ) → i < member_count cut
    → uses_place (member cut i) place ≡ true
    → (use_at (member cut i) place).start <ℤ (use_at (member cut i) place).«end»
takes_time cut sound i place l h =
    let row = member cut i in
    let at = found_there (λ (u : Use). u.block == place) row.uses no_use h in
    subst (λ (u : Use). u.start <ℤ u.«end») at.2 ((sound.each i no_member l).each at.0 no_use at.1).some_time

-- so it does where it is moved with an entry
pub takes_time_by : (cut : Cut) → IsSoundCut cut → (i place : ℕ) → i < member_count cut
    → uses_place (member cut i) place ≡ true → (entry : ℤ)
    → start_at (member cut i) entry place <ℤ end_at (member cut i) entry place
takes_time_by cut sound i place l h entry = omega (arith, ints, takes_time cut sound i place l h)

-- a place that a member uses is one of the cut's
pub place_there : (cut : Cut) → IsSoundCut cut → (i place : ℕ) → i < member_count cut
    → uses_place (member cut i) place ≡ true → place < place_count cut
place_there cut sound i place l h =
    let row = member cut i in
    let at = Any-from_list_any (λ (u : Use). u.block == place) row.uses h in
    let is : at.1.block ≡ place = eqb-true at.1.block place at.4 in
    let here = ((sound.each i no_member l).each at.0 at.1 at.2).place in
    subst (λ b. b < place_count cut) is (subst (λ (u : Use). u.block < place_count cut) at.3 here)

-- where a member uses a place, its use of it is found
pub used : (row : CutRow) (place : ℕ) → uses_place row place ≡ true → use_of row place ≡ Some (use_at row place)
used row place h = at row.uses h where
  at : (uses : List Use) → list_any (λ u. u.block == place) uses ≡ true
      → find (λ u. u.block == place) uses ≡ Some (unwrap_or (find (λ u. u.block == place) uses) no_use)
  at [] h = absurd (cc)
  at (u ∷ uses) h =
      elim (cases_Bool (u.block == place)) [
        | inl e ↦ rw e refl
        | inr e ↦ rw e (at uses (rw e at h))
      ]

-- ---- the use of a place, by what is found

pub any_found : (test : Use → Bool) (uses : List Use) → list_any test uses ≡ is_some (find test uses)
any_found test [] = refl
any_found test (u ∷ uses) =
    elim (cases_Bool (test u)) [ inl e ↦ rw e refl | inr e ↦ rw e (any_found test uses) ]

pub is_used : (row : CutRow) (place : ℕ) (o : Option Use) → use_of row place ≡ o → uses_place row place ≡ is_some o
is_used row place o e = any_found (λ (u : Use). u.block == place) row.uses ∙ ap is_some e

pub its_use : (row : CutRow) (place : ℕ) (u : Use) → use_of row place ≡ Some u → use_at row place ≡ u
its_use row place u e = ap (λ o. unwrap_or o no_use) e
