-- The visits of a place, member by member.
use Rattle.std.proofs.Common.{◌≡◌, ℕ, suc, ◌+◌, ◌<◌, true, false, ◌==◌, List, [], ◌∷◌, ◌++◌, length, map, take, set, inl, inr, refl, sym, ap, ◌∙◌, arith}
use Rattle.std.specs.Prelude.{Some, find, unwrap_or}
use Rattle.std.specs.Option.{is_some}
use Rattle.std.specs.List.{list_any}
use Rattle.std.proofs.lemmas.Bool.{cases_Bool, or_parts, eqb-true}
use Rattle.std.proofs.lemmas.List.{append-nil, map-append, take_more_set}
use Rattle.rail_model.specs.declared.stair.Use.{Use}
use Rattle.plan_model.specs.declared.cut.Cut.{Cut}
use Rattle.plan_model.specs.Members.{member, member_count, no_member, no_use, uses_place, use_of}
use Rattle.plan_model.specs.Cut.{IsSoundCut, AreOfOtherPlaces}
use Rattle.plan_model.proofs.UseFound.{differ_tail, not_found}
use Rattle.plan_model.proofs.Uses.{any_found, is_used, its_use}
use Rattle.train_order.specs.declared.visits.Visit.{Visit}
use Rattle.train_order.specs.Visits.{visit_of, visit_at, visits_by, visits_upto, HasMore, AreVisits}
use Rattle.train_order.proofs.Ranges.{passing_yes, passing_no}

-- ---- one member more

module _ (cut : Cut) (place n : ℕ) where
  pub with_visit : uses_place (member cut n) place ≡ true
      → visits_upto cut (n + 1) place ≡ visits_upto cut n place ++ visit_at cut place n ∷ []
  with_visit used =
      ap (map (visit_at cut place)) (passing_yes (λ i. uses_place (member cut i) place) n used)
      ∙ map-append (visit_at cut place) _ (n ∷ [])

  pub without_visit : uses_place (member cut n) place ≡ false → visits_upto cut (n + 1) place ≡ visits_upto cut n place
  without_visit used = ap (map (visit_at cut place)) (passing_no (λ i. uses_place (member cut i) place) n used)

  pub gathered : (room : List Visit) (count : ℕ) → take count room ≡ visits_upto cut n place → count < length room
      → (u : Use) → use_of (member cut n) place ≡ Some u
      → take (count + 1) (set room count (visit_of n u)) ≡ visits_upto cut (n + 1) place
  gathered room count have l u e =
      take_more_set room count (visit_of n u) l
      ∙ ap (λ vs. vs ++ visit_of n u ∷ []) have
      ∙ ap (λ w. visits_upto cut n place ++ visit_of n w ∷ []) (sym (its_use (member cut n) place u e))
      ∙ sym (with_visit (is_used (member cut n) place (Some u) e))

-- ---- the visits by some uses

none_by : (i place : ℕ) (uses : List Use) → list_any (λ (u : Use). u.block == place) uses ≡ false
    → visits_by i uses place ≡ []
none_by i place [] e = refl
none_by i place (u ∷ uses) e =
    let parts = or_parts (u.block == place) (list_any (λ (u : Use). u.block == place) uses) e in
    rw parts.0 (none_by i place uses parts.1)

by_uses : (i place : ℕ) (uses : List Use) → AreOfOtherPlaces uses → list_any (λ (u : Use). u.block == place) uses ≡ true
    → visits_by i uses place ≡ visit_of i (unwrap_or (find (λ (u : Use). u.block == place) uses) no_use) ∷ []
by_uses i place [] h used = absurd (cc)
by_uses i place (u ∷ uses) h used =
    elim (cases_Bool (u.block == place)) [
      | inl e ↦
          let is : u.block ≡ place = eqb-true u.block place e in
          let none = not_found place uses (λ k l q. h 0 (suc k) no_use (omega arith) (omega (arith, l)) (is ∙ sym q)) in
          rw e (ap (λ vs. visit_of i u ∷ vs) (none_by i place uses
          (any_found (λ (u : Use). u.block == place) uses ∙ ap is_some none)))
      | inr e ↦ rw e (by_uses i place uses (differ_tail u uses h) (rw e at used))
    ]

-- the lists with the visits of one member more
pub member_more : (cut : Cut) → IsSoundCut cut → (n places : ℕ) → n < member_count cut → (before after : List (List Visit))
    → AreVisits cut n places before → HasMore before after n (member cut n).uses → AreVisits cut (n + 1) places after
member_more cut sound n places l before after have more = record {
  count = more.count ∙ have.count;
  each = λ place lp.
      more.each place (omega (arith, lp, have.count))
      ∙ ap (λ vs. vs ++ visits_by n (member cut n).uses place) (have.each place lp)
      ∙ elim (cases_Bool (uses_place (member cut n) place)) [
        | inl used ↦
            ap (λ vs. visits_upto cut n place ++ vs)
            (by_uses n place (member cut n).uses (sound.each n no_member l).places_differ used)
            ∙ sym (with_visit cut place n used)
        | inr used ↦
            ap (λ vs. visits_upto cut n place ++ vs) (none_by n place (member cut n).uses used)
            ∙ append-nil (visits_upto cut n place) ∙ sym (without_visit cut place n used)
      ];
}
