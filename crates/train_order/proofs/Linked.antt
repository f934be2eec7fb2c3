-- The places of the uses that start first are those of precedence.
use Rattle.std.proofs.Common.{◌≡◌, ℕ, suc, ◌<◌, Bool, true, false, ◌&&◌, ◌||◌, ◌==◌, List, [], ◌∷◌, inl, inr, refl, sym, ap, subst, ◌∙◌, arith}
use Rattle.std.specs.Prelude.{int_lt, nat_lt, Option, Some, None, find, unwrap_or, option_map}
use Rattle.std.specs.Option.{is_some}
use Rattle.std.specs.Ordering.{int_eq}
use Rattle.std.specs.List.{All}
use Rattle.std.proofs.lemmas.Bool.{cases_Bool, both_ways, eqb-true}
use Rattle.rail_model.specs.declared.stair.Use.{Use}
use Rattle.plan_model.specs.declared.cut.Cut.{Cut}
use Rattle.plan_model.specs.Members.{place_count, places, place_name, first_by_name, AnswersFirst, member, member_count, no_member, uses_place, use_at, no_use, precedes, precedes_somewhere, places_of_precedence}
use Rattle.plan_model.specs.Cut.{IsSoundCut, AreOfOtherPlaces}
use Rattle.plan_model.specs.Disorder.{link_place}
use Rattle.plan_model.proofs.FirstByName.{first_is}
use Rattle.plan_model.proofs.UseFound.{differ_tail, not_found}
use Rattle.plan_model.proofs.Uses.{any_found}
use Rattle.train_order.specs.Taking.{is_among}
use Rattle.train_order.specs.Starts.{start_of, starts_first, is_first_of, places_first}
use Rattle.train_order.proofs.Among.{among_passing, passing_among}
use Rattle.train_order.proofs.Before.{names, less_test}
use Rattle.train_order.proofs.FirstPlace.{among_within}
use Rattle.train_order.proofs.Find.{find_some}

-- ---- the places of some uses

module _ (named : Bool) (others : List Use) where
  -- a place of uses of different places is among them where its use starts first
  among_starts : (uses : List Use) (place : ℕ) → AreOfOtherPlaces uses
      → is_among (places_first named uses others) place ≡ starts_first named (start_of uses place) (start_of others place)
  among_starts [] place h = refl
  among_starts (u ∷ uses) place h =
      elim (cases_Bool (u.block == place)) [
        | inl e ↦
            let is : u.block ≡ place = eqb-true u.block place e in
            let none : start_of uses place ≡ None =
            ap (option_map (λ (u : Use). u.start))
            (not_found place uses (λ k l q. h 0 (suc k) no_use (omega arith) (omega (arith, l)) (is ∙ sym q))) in
            let rest : is_among (places_first named uses others) place ≡ false =
            among_starts uses place (differ_tail u uses h) ∙ ap (λ o. starts_first named o (start_of others place)) none in
            let same : is_first_of named others u ≡ starts_first named (Some u.start) (start_of others place) =
            ap (λ p. starts_first named (Some u.start) (start_of others p)) is in
            elim (cases_Bool (is_first_of named others u)) [
              | inl t ↦ rw (t, e) (sym t ∙ same)
              | inr f ↦ rw (f, e) (rest ∙ sym f ∙ same)
            ]
        | inr e ↦
            let rest = among_starts uses place (differ_tail u uses h) in
            elim (cases_Bool (is_first_of named others u)) [
              | inl t ↦ rw (t, e) rest
              | inr f ↦ rw (f, e) rest
            ]
      ]

-- ---- by what is found

by_found : (named : Bool) (o q : Option Use) (a b : Bool) → a ≡ is_some o → b ≡ is_some q
    → starts_first named (option_map (λ (u : Use). u.start) o) (option_map (λ (u : Use). u.start) q)
    ≡ ((a && b) && (int_lt (unwrap_or o no_use).start (unwrap_or q no_use).start
    || (int_eq (unwrap_or o no_use).start (unwrap_or q no_use).start && named)))
by_found named (Some u) (Some v) a b p q = rw (p, q) refl
by_found named (Some u) None a b p q = rw (p, q) refl
by_found named None (Some v) a b p q = rw p refl
by_found named None None a b p q = rw p refl

-- a place is that of the link
abbrev pub IsLinked : Cut → ℕ → ℕ → Option ℕ → Type 0
IsLinked cut i j answer =
    (unwrap_or answer 0 < place_count cut) × (place_name cut (unwrap_or answer 0) ≡ link_place cut i j)

module _ (cut : Cut) (sound : IsSoundCut cut) (i j : ℕ) (li : i < member_count cut) (lj : j < member_count cut) where
  abbrev firsts : List ℕ
  firsts = places_first (nat_lt i j) (member cut i).uses (member cut j).uses

  within : All (λ (u : Use). u.block < place_count cut) (member cut i).uses
  within k d l = ((sound.each i no_member li).each k d l).place

  pub test_is : (place : ℕ) → precedes (member cut i) (member cut j) place
      ≡ starts_first (nat_lt i j) (start_of (member cut i).uses place) (start_of (member cut j).uses place)
  test_is place =
      ap (λ b. (uses_place (member cut i) place && uses_place (member cut j) place)
      && (int_lt (use_at (member cut i) place).start (use_at (member cut j) place).start
      || (int_eq (use_at (member cut i) place).start (use_at (member cut j) place).start && b)))
      (names cut sound i j li lj ∙ less_test i j)
      ∙ sym (by_found (nat_lt i j) (find (λ (u : Use). u.block == place) (member cut i).uses)
      (find (λ (u : Use). u.block == place) (member cut j).uses) _ _ (any_found _ (member cut i).uses) (any_found _ (member cut j).uses))

  -- a place is one of them where member i precedes member j there
  same_places : (place : ℕ) → is_among firsts place ≡ precedes (member cut i) (member cut j) place
  same_places place =
      among_starts (nat_lt i j) (member cut j).uses (member cut i).uses place (sound.each i no_member li).places_differ
      ∙ sym (test_is place)

  there : (place : ℕ) → is_among firsts place ≡ true → place < place_count cut
  there place h = among_within (place_count cut) (nat_lt i j) (member cut j).uses (member cut i).uses within place h

  -- the first by name of them is the link's place
  linked : (answer : Option ℕ) → precedes_somewhere cut i j ≡ true → AnswersFirst cut firsts answer
      → IsLinked cut i j answer
  linked None h none =
      let one = find_some (precedes (member cut i) (member cut j)) (places cut) h in
      absurd (both_ways (is_among firsts one.0) (ap (λ ps. is_among ps one.0) none) (same_places one.0 ∙ one.3))
  linked (Some b) h first =
      let test : ℕ → Bool = precedes (member cut i) (member cut j) in
      let least : first_by_name cut (places_of_precedence cut i j) ≡ Some b =
      first_is cut sound (places_of_precedence cut i j) b (λ c e. (passing_among test (place_count cut) c e).0)
      (among_passing test (place_count cut) b (there b first.there) (sym (same_places b) ∙ first.there))
      (λ c e. first.least c (same_places c ∙ (passing_among test (place_count cut) c e).1)) in
      (there b first.there, ap (λ (o : Option ℕ). place_name cut (unwrap_or o (place_count cut))) (sym least))

  pub linked_by : (uses : List Use) → uses ≡ (member cut i).uses → (answer : Option ℕ) → precedes_somewhere cut i j ≡ true
      → AnswersFirst cut (places_first (nat_lt i j) uses (member cut j).uses) answer → IsLinked cut i j answer
  linked_by uses e answer h first =
      linked answer h (subst (λ us. AnswersFirst cut (places_first (nat_lt i j) us (member cut j).uses) answer) e first)
