-- The first touch of a row's uses: by trains, then by the names of places.
use Rattle.std.proofs.Common.{◌≡◌, ℕ, ◌≤◌, ◌⊎◌, true, false, List, [], ◌∷◌, inl, inr, ◌∙◌, refl, sym, ap, subst, arith}
use Rattle.std.specs.Prelude.{◌==◌, ◌&&◌, nat_lt, ℤ, ◌+ℤ◌, ◌-ℤ◌, Option, None, Some, slice_index_or, fold}
use Rattle.std.specs.Ordering.{int_eq}
use Rattle.std.proofs.lemmas.Bool.{cases_Bool, cases_eq, eq-eqb, eqb-true, ne_eqb, le-ltb, ltb-true, ltb-false, or_parts, or_from, or_left, or_right, or_cases, and_parts, and_left, and_right, and_cases, both_ways}
use Rattle.rail_model.specs.declared.stair.Use.{Use}
use Rattle.rail_model.specs.Name.{is_before}
use Rattle.rail_model.proofs.NameOrder.{is_before-back, IsBefore-from, is_before-itself, not_before-both}
use Rattle.plan_model.specs.declared.cut.Cut.{Cut}
use Rattle.plan_model.specs.Members.{place_name}
use Rattle.plan_model.specs.Cut.{AreOfOtherPlaces}
use Rattle.plan_model.proofs.UseFound.{differ_tail}
use Rattle.train_placing.specs.declared.last.Last.{Last}
use Rattle.train_placing.specs.declared.tie.Touch.{Touch}
use Rattle.train_placing.specs.Touch.{touch_of, comes_first, better, touch_with}
use Rattle.train_placing.proofs.Row.{is_used, at, other_place}

module _ (cut : Cut) where
  -- ---- the order of touches

  abbrev name : Touch → List ℕ
  name t = place_name cut t.place

  itself : (a : Touch) → comes_first cut a a ≡ false
  itself a =
      or_from (nat_lt a.train a.train) (a.train == a.train && is_before (name a) (name a))
      (le-ltb a.train a.train (omega arith)) (and_right (a.train == a.train) (is_before (name a) (name a))
      (is_before-itself (name a)))

  other_way : (a b : Touch) → comes_first cut a b ≡ true → comes_first cut b a ≡ false
  other_way a b h =
      elim (or_cases (nat_lt a.train b.train) (a.train == b.train && is_before (name a) (name b)) h) [
        | inl l ↦
            let lt = ltb-true a.train b.train l in
            or_from (nat_lt b.train a.train) (b.train == a.train && is_before (name b) (name a))
            (le-ltb b.train a.train (omega (arith, lt)))
            (and_left (b.train == a.train) (is_before (name b) (name a))
            (ne_eqb b.train a.train (λ (e : b.train ≡ a.train). omega (arith, lt, e))))
        | inr e ↦
            let both = and_parts (a.train == b.train) (is_before (name a) (name b)) e in
            let same = eqb-true a.train b.train both.0 in
            or_from (nat_lt b.train a.train) (b.train == a.train && is_before (name b) (name a))
            (le-ltb b.train a.train (omega (arith, same)))
            (and_right (b.train == a.train) (is_before (name b) (name a))
            (is_before-back (name a) (name b) (IsBefore-from (name a) (name b) both.1)))
      ]

  -- what isn't first of two
  pub no_less : (a b : Touch) → comes_first cut a b ≡ false → b.train ≤ a.train
  no_less a b h =
      ltb-false a.train b.train
      (or_parts (nat_lt a.train b.train) (a.train == b.train && is_before (name a) (name b)) h).0

  pub no_less_name : (a b : Touch) → comes_first cut a b ≡ false → a.train ≡ b.train
      → is_before (name a) (name b) ≡ false
  no_less_name a b h e =
      elim (and_cases (a.train == b.train) (is_before (name a) (name b))
      (or_parts (nat_lt a.train b.train) (a.train == b.train && is_before (name a) (name b)) h).1) [
        | inl ne ↦ absurd (both_ways (a.train == b.train) ne (eq-eqb a.train b.train e))
        | inr n ↦ n
      ]

  through : (a b c : Touch) → comes_first cut a b ≡ false → comes_first cut b c ≡ false → comes_first cut a c ≡ false
  through a b c p q =
      let ab = no_less a b p in
      let bc = no_less b c q in
      or_from (nat_lt a.train c.train) (a.train == c.train && is_before (name a) (name c))
      (le-ltb a.train c.train (omega (arith, ab, bc)))
      (elim (cases_eq a.train c.train) [
        | inr ne ↦ and_left (a.train == c.train) (is_before (name a) (name c)) (ne_eqb a.train c.train ne)
        | inl e ↦
            and_right (a.train == c.train) (is_before (name a) (name c))
            (not_before-both (name a) (name b) (name c) (no_less_name a b p (omega (arith, ab, bc, e)))
            (no_less_name b c q (omega (arith, ab, bc, e))))
      ])

  -- ---- the first of two

  better_none : (best other : Option Touch) → better cut best other ≡ None → (best ≡ None) × (other ≡ None)
  better_none None other h = (refl, h)
  better_none (Some s) None h = absurd (cc)
  better_none (Some s) (Some t) h =
      elim (cases_Bool (comes_first cut t s)) [
        | inl e ↦ absurd (let w = rw e at h in cc)
        | inr e ↦ absurd (let w = rw e at h in cc)
      ]

  better_from : (best other : Option Touch) (t : Touch) → better cut best other ≡ Some t
      → (best ≡ Some t) ⊎ (other ≡ Some t)
  better_from None other t h = inr h
  better_from (Some s) None t h = inl h
  better_from (Some s) (Some u) t h =
      elim (cases_Bool (comes_first cut u s)) [ inl e ↦ inr (rw e at h) | inr e ↦ inl (rw e at h) ]

  -- one is chosen, which another doesn't come before
  record Chooses (result : Option Touch) (s : Touch) : Type 0 where
    one : Touch
    is : result ≡ Some one
    first : comes_first cut s one ≡ false

  over_best : (s : Touch) (other : Option Touch) → Chooses (better cut (Some s) other) s
  over_best s None = record { one = s; is = refl; first = itself s }
  over_best s (Some t) =
      elim (cases_Bool (comes_first cut t s)) [
        | inl e ↦ record { one = t; is = rw e refl; first = other_way t s e }
        | inr e ↦ record { one = s; is = rw e refl; first = itself s }
      ]

  over_other : (best : Option Touch) (s : Touch) → Chooses (better cut best (Some s)) s
  over_other None s = record { one = s; is = refl; first = itself s }
  over_other (Some b) s =
      elim (cases_Bool (comes_first cut s b)) [
        | inl e ↦ record { one = s; is = rw e refl; first = itself s }
        | inr e ↦ record { one = b; is = rw e refl; first = e }
      ]

  -- ---- the first of all

  module _ (planned entry : ℤ) (last : List (Option Last)) where
    -- the touch at the use of a place
    abbrev pub touch_at : List Use → ℕ → Option Touch
    touch_at uses p = touch_of planned entry (slice_index_or last p None) (at uses p)

    -- a touch is one of those at some uses, or that of before, and none of them comes before it
    pub record IsBest (best : Option Touch) (uses : List Use) (t : Touch) : Type 0 where
      pub from : (best ≡ Some t) ⊎ ((is_used uses t.place ≡ true) × (touch_at uses t.place ≡ Some t))
      pub first : (s : Touch) → best ≡ Some s → comes_first cut s t ≡ false
      pub each : (p : ℕ) (s : Touch) → is_used uses p ≡ true → touch_at uses p ≡ Some s → comes_first cut s t ≡ false

    abbrev pub IsFirstOf : Option Touch → List Use → Option Touch → Type 0
    IsFirstOf best uses None = (best ≡ None) × ((p : ℕ) → is_used uses p ≡ true → touch_at uses p ≡ None)
    IsFirstOf best uses (Some t) = IsBest best uses t

    touch_place : (o : Option Last) (u : Use) (t : Touch) → touch_of planned entry o u ≡ Some t → t.place ≡ u.block
    touch_place None u t h = absurd (cc)
    touch_place (Some l) u t h =
        elim (cases_Bool (int_eq l.until (u.start -ℤ planned +ℤ entry))) [
          | inl e ↦ let w = rw e at h in cc
          | inr e ↦ absurd (let w = rw e at h in cc)
        ]

    -- the use of a place is the first one, or that of the others
    at_first : (u : Use) (uses : List Use) (p : ℕ) → u.block ≡ p
        → touch_at (u ∷ uses) p ≡ touch_of planned entry (slice_index_or last u.block None) u
    at_first u uses p e =
        let here = eq-eqb u.block p e in
        rw here (ap (λ q. touch_of planned entry (slice_index_or last q None) u) (sym e))

    at_rest : (u : Use) (uses : List Use) (p : ℕ) → (u.block == p) ≡ false → touch_at (u ∷ uses) p ≡ touch_at uses p
    at_rest u uses p ne = rw ne refl

    none_of : (u : Use) (uses : List Use) (best : Option Touch)
        → IsFirstOf (touch_with cut planned entry last best u) uses None → IsFirstOf best (u ∷ uses) None
    none_of u uses best h =
        let both = better_none best (touch_of planned entry (slice_index_or last u.block None) u) h.0 in (
          both.0,
          λ p used.
              elim (cases_Bool (u.block == p)) [
                | inl e ↦ at_first u uses p (eqb-true u.block p e) ∙ both.1
                | inr ne ↦ at_rest u uses p ne ∙ h.1 p (rw ne at used)
              ],
        )

    one_of : (u : Use) (uses : List Use) (best : Option Touch) (t : Touch) → AreOfOtherPlaces (u ∷ uses)
        → IsBest (touch_with cut planned entry last best u) uses t → IsBest best (u ∷ uses) t
    one_of u uses best t differ h =
        let here = touch_of planned entry (slice_index_or last u.block None) u in
        record {
          from =
              elim h.from [
                | inr (used, is) ↦
                    inr (
                      or_right (u.block == t.place) (is_used uses t.place) used,
                      at_rest u uses t.place
                          (other_place u uses t.place differ used) ∙ is,
                    )
                | inl e ↦ elim (better_from best here t e) [
                  | inl b ↦ inl b
                  | inr o ↦
                      let place = touch_place (slice_index_or last u.block None) u t o in
                      inr (
                        or_left (u.block == t.place) (is_used uses t.place) (eq-eqb u.block t.place (sym place)),
                        at_first u uses t.place (sym place) ∙ o,
                      )
                ]
              ];
          first = λ s e.
              let c = subst (λ b. Chooses (better cut b here) s) (sym e) (over_best s here) in
              through s c.one t c.first (h.first c.one c.is);
          each = λ p s used e.
              elim (cases_Bool (u.block == p)) [
                | inr ne ↦ h.each p s (rw ne at used) (sym (at_rest u uses p ne) ∙ e)
                | inl q ↦
                    let o = sym (at_first u uses p (eqb-true u.block p q)) ∙ e in
                    let c = subst (λ b. Chooses (better cut best b) s) (sym o) (over_other best s) in
                    through s c.one t c.first (h.first c.one c.is)
              ];
        }

    more : (u : Use) (uses : List Use) (best result : Option Touch) → AreOfOtherPlaces (u ∷ uses)
        → IsFirstOf (touch_with cut planned entry last best u) uses result → IsFirstOf best (u ∷ uses) result
    more u uses best None differ h = none_of u uses best h
    more u uses best (Some t) differ h = one_of u uses best t differ h

    pub first_of : (best : Option Touch) (uses : List Use) → AreOfOtherPlaces uses
        → IsFirstOf best uses (fold (touch_with cut planned entry last) best uses)
    first_of None [] differ = (refl, λ p h. absurd (cc))
    first_of (Some b) [] differ = record {
      from = inl refl;
      first = λ s e. (let same : b ≡ s = cc in subst (λ x. comes_first cut x b ≡ false) same (itself b));
      each = λ p s h. absurd (cc);
    }
    first_of best (u ∷ uses) differ =
        more u uses best _ differ (first_of (touch_with cut planned entry last best u) uses
        (differ_tail u uses differ))
