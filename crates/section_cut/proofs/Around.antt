-- A list whose names rise, around the item of a name.
use Rattle.std.proofs.Common.{◌≡◌, ◌⊎◌, ℕ, suc, Bool, true, false, not, List, [], ◌∷◌, map, get_or, None, refl, sym, ap, ◌∙◌, subst, inl, inr, arith}
use Rattle.std.specs.Prelude.{find, filter, All, unwrap_or}
use Rattle.std.proofs.lemmas.Bool.{cases_Bool}
use Rattle.std.proofs.lemmas.List.{append-nil}
use Rattle.std.proofs.lemmas.List.Elements.{filter-append}
use Rattle.std.proofs.lemmas.List.Folds.{find_at}
use Rattle.std.proofs.lemmas.Option.{unwrap_or-slice_get}
use Rattle.rail_model.specs.Tables.{number_of}
use Rattle.rail_model.specs.Name.{IsBefore, is_before, is_same, NamesRise}
use Rattle.rail_model.specs.Rules.{with_item, with_changed, without}
use Rattle.rail_model.proofs.NameOrder.{same_name, is_same-from, is_same-before, is_same-after, is_before-from, is_before-back, is_before-itself, same_or_after, IsBefore-trans, IsBefore-from}
use Rattle.rail_model.proofs.Lists.{find_none}
use Rattle.rail_model.proofs.Places.{filter_all, filter_none}
use Rattle.section_cut.specs.OneRun.{before, behind, with_one}

-- ---- filters

pub filter_twice : {X : Type 0} (p : X → Bool) (xs : List X) → filter p (filter p xs) ≡ filter p xs
filter_twice p [] = refl
filter_twice p (x ∷ xs) =
    elim (cases_Bool (p x)) [
      | inl e ↦ rw e (rw e (ap (λ ys. x ∷ ys) (filter_twice p xs)))
      | inr e ↦ rw e (filter_twice p xs)
    ]

-- what passes one test passes no other
pub filter_apart : {X : Type 0} (p q : X → Bool) → ((x : X) → q x ≡ true → p x ≡ false) → (xs : List X) → filter p (filter q xs) ≡ []
filter_apart p q apart [] = refl
filter_apart p q apart (x ∷ xs) =
    elim (cases_Bool (q x)) [
      | inl e ↦ rw e (rw (apart x e) (filter_apart p q apart xs))
      | inr e ↦ rw e (filter_apart p q apart xs)
    ]

-- what passes the one test passes the other
pub filter_within : {X : Type 0} (p q : X → Bool) → ((x : X) → p x ≡ true → q x ≡ true) → (xs : List X) → filter p (filter q xs) ≡ filter p xs
filter_within p q within [] = refl
filter_within p q within (x ∷ xs) =
    elim (cases_Bool (q x)) [
      | inl e ↦ rw e (elim (cases_Bool (p x)) [
        | inl h ↦ rw h (ap (λ ys. x ∷ ys) (filter_within p q within xs))
        | inr h ↦ rw h (filter_within p q within xs)
      ])
      | inr e ↦ elim (cases_Bool (p x)) [
        | inl h ↦ let both : true ≡ false = sym (within x h) ∙ e in absurd (cc)
        | inr h ↦ rw (e, h) (filter_within p q within xs)
      ]
    ]

-- the first that passes the one test, where what passes it passes the other
pub find_within : {X : Type 0} (p q : X → Bool) → ((x : X) → p x ≡ true → q x ≡ true) → (xs : List X) → find p (filter q xs) ≡ find p xs
find_within p q within [] = refl
find_within p q within (x ∷ xs) =
    elim (cases_Bool (p x)) [
      | inl h ↦ rw (within x h, h) refl
      | inr h ↦ elim (cases_Bool (q x)) [
        | inl e ↦ rw (e, h) (find_within p q within xs)
        | inr e ↦ rw (e, h) (find_within p q within xs)
      ]
    ]

-- a test of a name and then another, with what the items become
pub filter_rows : {X Y : Type 0} (f : X → Y) (p : X → Bool) (q : X → Bool) (r : Y → Bool) → ((x : X) → r (f x) ≡ q x) → (xs : List X)
    → filter r (map f (filter p xs)) ≡ map f (filter p (filter q xs))
filter_rows f p q r same [] = refl
filter_rows f p q r same (x ∷ xs) =
    elim (cases_Bool (p x)) [
      | inl e ↦ elim (cases_Bool (q x)) [
        | inl h ↦ rw (e, h) (rw (same x, h, e) (ap (λ ys. f x ∷ ys) (filter_rows f p q r same xs)))
        | inr h ↦ rw (e, h) (rw (same x, h) (filter_rows f p q r same xs))
      ]
      | inr e ↦ elim (cases_Bool (q x)) [
        | inl h ↦ rw (e, h) (rw e (filter_rows f p q r same xs))
        | inr h ↦ rw (e, h) (filter_rows f p q r same xs)
      ]
    ]

module _ {X : Type 0} (name : X → List ℕ) where
  -- a list whose names rise is what comes before a name, the item of the name, and what comes behind it
  pub split : (n : List ℕ) (items : List X) → NamesRise name items
      → items ≡ with_one name n (find (λ x. is_same (name x) n) items) items
  split n [] rise = refl
  split n (x ∷ items) rise =
      let rest = split n items (λ i j d e l. rise (suc i) (suc j) d (omega arith) (omega arith)) in
      let behind_x : (m : List ℕ) → (m ≡ name x) ⊎ IsBefore m (name x) → All (λ y. IsBefore m (name y)) items =
      λ m o k d l.
      let step : IsBefore (name x) (name (get_or items k d)) = rise 0 (suc k) d (omega arith) (omega arith) in
      elim o [
        | inl e ↦ subst (λ z. IsBefore z (name (get_or items k d))) (sym e) step
        | inr h ↦ IsBefore-trans m (name x) (name (get_or items k d)) h step
      ] in
      let none : (o : (n ≡ name x) ⊎ IsBefore n (name x)) → before name n items ≡ [] =
      λ o. filter_none (λ y. is_before (name y) n) items (λ k d l. is_before-back n (name (get_or items k d)) (behind_x n o k d l)) in
      let all : (o : (n ≡ name x) ⊎ IsBefore n (name x)) → behind name n items ≡ items =
      λ o. filter_all (λ y. is_before n (name y)) items (λ k d l. is_before-from n (name (get_or items k d)) (behind_x n o k d l)) in
      elim (cases_Bool (is_before (name x) n)) [
        | inl first ↦
            let h = IsBefore-from (name x) n first in
            rw (first, is_same-before (name x) n h, is_before-back (name x) n h) (ap (λ ys. x ∷ ys) rest)
        | inr late ↦ elim (same_or_after (name x) n late) [
          | inl e ↦
              let self : is_before n (name x) ≡ false = subst (λ m. is_before m (name x) ≡ false) e (is_before-itself (name x)) in
              rw (late, is_same-from (name x) n e, self, none (inl (sym e)), all (inl (sym e))) refl
          | inr h ↦
              let gone : find (λ y. is_same (name y) n) items ≡ None =
              find_none (λ y. is_same (name y) n) items (λ k d l. is_same-after n (name (get_or items k d)) (behind_x n (inr h) k d l)) in
              rw (late, is_same-after n (name x) h, is_before-from n (name x) h, none (inr h), all (inr h), gone) refl
        ]
      ]

  -- ---- what an edit of the item of a name leaves before it and behind it

  pub put_front : (x : X) (items : List X) → before name (name x) (with_item name items x) ≡ before name (name x) items
  put_front x items =
      let front = λ (y : X). is_before (name y) (name x) in
      let back = λ (y : X). is_before (name x) (name y) in
      filter-append front (filter front items) (x ∷ filter back items)
      ∙ rw (
        is_before-itself (name x),
        filter_twice front items,
        filter_apart front back (λ y h. is_before-back (name x) (name y) (IsBefore-from (name x) (name y) h)) items,
      )
      (append-nil (filter front items))

  pub put_back : (x : X) (items : List X) → behind name (name x) (with_item name items x) ≡ behind name (name x) items
  put_back x items =
      let front = λ (y : X). is_before (name y) (name x) in
      let back = λ (y : X). is_before (name x) (name y) in
      filter-append back (filter front items) (x ∷ filter back items)
      ∙ rw (
        is_before-itself (name x),
        filter_twice back items,
        filter_apart back front (λ y h. is_before-back (name y) (name x) (IsBefore-from (name y) (name x) h)) items,
      )
      refl

  -- a test of names that the item's own fails
  changed_filter : (q : List ℕ → Bool) (x : X) → q (name x) ≡ false → (items : List X)
      → filter (λ y. q (name y)) (with_changed name items x) ≡ filter (λ y. q (name y)) items
  changed_filter q x out [] = refl
  changed_filter q x out (y ∷ items) =
      elim (cases_Bool (is_same (name y) (name x))) [
        | inl e ↦
            let gone : q (name y) ≡ false = ap q (same_name (name y) (name x) e) ∙ out in
            rw (e, gone) (rw out (changed_filter q x out items))
        | inr e ↦ rw e (elim (cases_Bool (q (name y))) [
          | inl h ↦ rw h (ap (λ ys. y ∷ ys) (changed_filter q x out items))
          | inr h ↦ rw h (changed_filter q x out items)
        ])
      ]

  pub change_front : (x : X) (items : List X) → before name (name x) (with_changed name items x) ≡ before name (name x) items
  change_front x items = changed_filter (λ m. is_before m (name x)) x (is_before-itself (name x)) items

  pub change_back : (x : X) (items : List X) → behind name (name x) (with_changed name items x) ≡ behind name (name x) items
  change_back x items = changed_filter (λ m. is_before (name x) m) x (is_before-itself (name x)) items

  pub drop_front : (n : List ℕ) (items : List X) → before name n (without name items n) ≡ before name n items
  drop_front n items =
      filter_within (λ y. is_before (name y) n) (λ y. not (is_same (name y) n))
      (λ y h. ap not (is_same-before (name y) n (IsBefore-from (name y) n h))) items

  pub drop_back : (n : List ℕ) (items : List X) → behind name n (without name items n) ≡ behind name n items
  drop_back n items =
      filter_within (λ y. is_before n (name y)) (λ y. not (is_same (name y) n))
      (λ y h. ap not (is_same-after n (name y) (IsBefore-from n (name y) h))) items

  -- an item of another name is found as before
  module _ (n : List ℕ) (earlier later : List X) (front : before name n later ≡ before name n earlier) (back : behind name n later ≡ behind name n earlier) where
    pub found_still : (m : List ℕ) → (n ≡ m → ⊥) → find (λ x. is_same (name x) m) later ≡ find (λ x. is_same (name x) m) earlier
    found_still m other =
        let named : (x : X) → is_same (name x) m ≡ true → m ≡ name x = λ x h. sym (same_name (name x) m h) in
        let p = λ (x : X). is_same (name x) m in
        let is_front = λ (x : X). is_before (name x) n in
        let is_back = λ (x : X). is_before n (name x) in
        elim (cases_Bool (is_before m n)) [
          | inl first ↦
              let within : (x : X) → p x ≡ true → is_front x ≡ true = λ x h. subst (λ k. is_before k n ≡ true) (named x h) first in
              sym (find_within p is_front within later) ∙ ap (find p) front ∙ find_within p is_front within earlier
          | inr not_first ↦ elim (same_or_after m n not_first) [
            | inl e ↦ absurd (other (sym e))
            | inr last ↦
                let within : (x : X) → p x ≡ true → is_back x ≡ true =
                λ x h. subst (λ k. is_before n k ≡ true) (named x h) (is_before-from n m last) in
                sym (find_within p is_back within later) ∙ ap (find p) back ∙ find_within p is_back within earlier
          ]
        ]

    -- and stands by its name
    pub named_still : (d : X) (m : List ℕ) → (n ≡ m → ⊥) → get_or later (number_of name later m) d ≡ get_or earlier (number_of name earlier m) d
    named_still d m other =
        let p = λ (x : X). is_same (name x) m in
        sym (unwrap_or-slice_get later (number_of name later m) d)
        ∙ ap (λ o. unwrap_or o d) (sym (find_at p later) ∙ found_still m other ∙ find_at p earlier)
        ∙ unwrap_or-slice_get earlier (number_of name earlier m) d
