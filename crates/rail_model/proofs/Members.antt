-- What a list of named items keeps where one item is put in, changed or taken out.
use Rattle.std.proofs.Common.{◌≡◌, ℕ, ◌+◌, ◌≤◌, Bool, true, false, not, cond, List, [], ◌∷◌, length, map, get_or, Some, refl, sym, ap, ◌∙◌, subst, inl, inr, arith}
use Rattle.std.specs.Prelude.{unwrap_or}
use Rattle.std.specs.List.{list_any, All, filter, find, position_or_len}
use Rattle.std.proofs.lemmas.Bool.{both_ways, cases_Bool, false_from_ne_true}
use Rattle.std.proofs.lemmas.Option.{unwrap_or-slice_get}
use Rattle.std.proofs.lemmas.List.{get_or-map, length-map}
use Rattle.std.proofs.lemmas.List.Edits.{length-insert}
use Rattle.std.proofs.lemmas.List.Elements.{All-append, All-cons, All-filter}
use Rattle.std.proofs.lemmas.List.Folds.{find_at, list_any_at, list_any_none}
use Rattle.std.proofs.lemmas.List.Kept.{AllPairs-filter}
use Rattle.rail_model.specs.Name.{IsBefore, is_before, is_same, NamesRise}
use Rattle.rail_model.specs.Tables.{number_of}
use Rattle.rail_model.specs.Rules.{with_item, with_changed, without, is_named}
use Rattle.rail_model.proofs.NameOrder.{same_name, is_same-from}
use Rattle.rail_model.proofs.Places.{place, with_item-place, NamesRise-insert, list_any-insert, first-insert}

-- no name, and one name
pub never : List ℕ → Bool
never n = false

pub not_never : (n : List ℕ) → never n ≡ false
unfolding never
not_never n = refl

-- after an edit the names are there but those that are gone, and the items are the same but those that are other
pub record Keeps {X : Type 0} (name : X → List ℕ) (items later : List X) (gone other : List ℕ → Bool) : Type 0 where
  pub names : (n : List ℕ) → gone n ≡ false → is_named name items n ≡ true → is_named name later n ≡ true
  pub first : (n : List ℕ) (d : X) → other n ≡ false → is_named name items n ≡ true → get_or later (number_of name later n) d ≡ get_or items (number_of name items n) d

-- what is the first under a test is what `find` finds
same_first : {X : Type 0} (p : X → Bool) (xs ys : List X) (d : X) → find p xs ≡ find p ys → get_or xs (position_or_len p xs) d ≡ get_or ys (position_or_len p ys) d
same_first p xs ys d e =
    sym (unwrap_or-slice_get xs (position_or_len p xs) d)
    ∙ ap (λ o. unwrap_or o d) (sym (find_at p xs) ∙ e ∙ find_at p ys)
    ∙ unwrap_or-slice_get ys (position_or_len p ys) d

-- where no element passes a test
pub none_passes : {X : Type 0} (p : X → Bool) (xs : List X) → list_any p xs ≡ false → All (λ x. p x ≡ false) xs
none_passes p xs h k d l =
    false_from_ne_true (p (get_or xs k d)) (λ e. both_ways (list_any p xs) h (list_any_at p xs k d l e))

-- ---- an item put in

module _ {X : Type 0} (name : X → List ℕ) (items : List X) (x : X) where
  other_name : (m n : List ℕ) → is_named name items m ≡ false → is_named name items n ≡ true → is_same m n ≡ false
  other_name m n new known =
      elim (cases_Bool (is_same m n)) [
        | inl e ↦ absurd (both_ways (is_named name items m) new (ap (is_named name items) (same_name m n e) ∙ known))
        | inr e ↦ e
      ]

  -- its names rise, there is one more, and what was there is kept
  pub record IsGrown (more : List X) : Type 0 where
    pub rise : NamesRise name more
    pub count : length more ≡ length items + 1
    pub keeps : Keeps name items more never never

  pub grown_by_put : NamesRise name items → is_named name items (name x) ≡ false → IsGrown (with_item name items x)
  grown_by_put rise new =
      let here = place name items (name x) rise new in
      let i = here.0 in
      subst IsGrown (sym (with_item-place name items x (name x) i refl here.1)) (record {
        rise = NamesRise-insert name items x i rise here.1;
        count = length-insert items i x here.1.within;
        keeps = record {
          names = λ n g known. list_any-insert (λ y. is_same (name y) n) items i x known;
          first = λ n d o known. first-insert (λ y. is_same (name y) n) items i x d (other_name (name x) n new known);
        };
      })

  pub All-with_item : (P : X → Type 0) → P x → All P items → All P (with_item name items x)
  All-with_item P one all =
      let before = λ (y : _). is_before (name y) (name x) in
      let after = λ (y : _). is_before (name x) (name y) in
      All-append P (filter before items) (x ∷ filter after items) (All-filter before P items all)
      (All-cons P x (filter after items) one (All-filter after P items all))

  -- a name that isn't there and isn't the item's isn't there afterwards
  pub not_named-with_item : (n : List ℕ) → is_named name items n ≡ false → is_same (name x) n ≡ false → is_named name (with_item name items x) n ≡ false
  not_named-with_item n out apart =
      list_any_none (λ y. is_same (name y) n) (with_item name items x)
      (All-with_item (λ y. is_same (name y) n ≡ false) apart (none_passes (λ y. is_same (name y) n) items out))

-- ---- an item changed

module _ {X : Type 0} (name : X → List ℕ) (x : X) where
  changed : X → X
  changed y = cond (is_same (name y) (name x)) x y

  changed_is : (items : List X) → with_changed name items x ≡ map changed items
  unfolding changed
  changed_is items = refl

  same_changed : (y : X) → name (changed y) ≡ name y
  unfolding changed
  same_changed y =
      elim (cases_Bool (is_same (name y) (name x))) [
        | inl e ↦ rw e (sym (same_name (name y) (name x) e))
        | inr e ↦ rw e refl
      ]

  kept_changed : (y : X) → is_same (name y) (name x) ≡ false → changed y ≡ y
  unfolding changed
  kept_changed y e = rw e refl

  pub length-with_changed : (items : List X) → length (with_changed name items x) ≡ length items
  length-with_changed items = rw (changed_is items) (length-map items changed)

  named_by_map : (n : List ℕ) (items : List X) → is_named name (map changed items) n ≡ is_named name items n
  named_by_map n [] = refl
  named_by_map n (y ∷ items) = rw (same_changed y, named_by_map n items) refl

  pub is_named-with_changed : (n : List ℕ) (items : List X) → is_named name (with_changed name items x) n ≡ is_named name items n
  is_named-with_changed n items = rw (changed_is items) (named_by_map n items)

  pub NamesRise-with_changed : (items : List X) → NamesRise name items → NamesRise name (with_changed name items x)
  NamesRise-with_changed items rise = rw (changed_is items) (λ i j d lt l.
      let long : length (map changed items) ≡ length items = length-map items changed in
      rw (get_or-map changed items i d d (omega arith), get_or-map changed items j d d (omega arith), same_changed (get_or items i d), same_changed (get_or items j d))
      (rise i j d lt (omega arith)))

  find_by_map : (n : List ℕ) → is_same n (name x) ≡ false → (items : List X) → find (λ y. is_same (name y) n) (map changed items) ≡ find (λ y. is_same (name y) n) items
  find_by_map n apart [] = refl
  find_by_map n apart (y ∷ items) =
      elim (cases_Bool (is_same (name y) n)) [
        | inl e ↦ rw (kept_changed y (ap (λ m. is_same m (name x)) (same_name (name y) n e) ∙ apart), e) refl
        | inr e ↦ rw (same_changed y, e) (find_by_map n apart items)
      ]

  pub kept_by_change : (items : List X) → Keeps name items (with_changed name items x) never (λ n. is_same n (name x))
  kept_by_change items = record {
    names = λ n g known. is_named-with_changed n items ∙ known;
    first = λ n d o known. rw (changed_is items) (same_first (λ y. is_same (name y) n) (map changed items) items d (find_by_map n o items));
  }

  -- the item of the name is then the changed one
  changed_found : (items : List X) → is_named name items (name x) ≡ true → find (λ y. is_same (name y) (name x)) (map changed items) ≡ Some x
  unfolding changed
  changed_found [] h = absurd (cc)
  changed_found (y ∷ items) h =
      elim (cases_Bool (is_same (name y) (name x))) [
        | inl e ↦ rw (e, is_same-from (name x) (name x) refl) refl
        | inr e ↦ rw (e, e) (changed_found items (rw e at h))
      ]

  pub first-with_changed : (items : List X) (d : X) → is_named name items (name x) ≡ true → get_or (with_changed name items x) (number_of name (with_changed name items x) (name x)) d ≡ x
  first-with_changed items d known =
      let p = λ (y : X). is_same (name y) (name x) in
      rw (changed_is items)
      (sym (unwrap_or-slice_get (map changed items) (position_or_len p (map changed items)) d)
      ∙ ap (λ o. unwrap_or o d) (sym (find_at p (map changed items)) ∙ changed_found items known))

  of_changed : (P : X → Type 0) → P x → (y : X) → P y → P (changed y)
  unfolding changed
  of_changed P one y kept =
      elim (cases_Bool (is_same (name y) (name x))) [
        | inl e ↦ rw e one
        | inr e ↦ rw e kept
      ]

  pub All-with_changed : (P : X → Type 0) (items : List X) → P x → All P items → All P (with_changed name items x)
  All-with_changed P items one all = rw (changed_is items) (λ k d l.
      let long : length (map changed items) ≡ length items = length-map items changed in
      rw (get_or-map changed items k d d (omega arith)) (of_changed P one (get_or items k d) (all k d (omega arith))))

-- ---- an item taken out

module _ {X : Type 0} (name : X → List ℕ) (n : List ℕ) where
  stays : X → Bool
  stays y = not (is_same (name y) n)

  stays_apart : (m : List ℕ) → is_same m n ≡ false → (y : X) → is_same (name y) m ≡ true → is_same (name y) n ≡ false
  stays_apart m apart y e = ap (λ k. is_same k n) (same_name (name y) m e) ∙ apart

  find_without : (m : List ℕ) → is_same m n ≡ false → (items : List X) → find (λ y. is_same (name y) m) (without name items n) ≡ find (λ y. is_same (name y) m) items
  find_without m apart [] = refl
  find_without m apart (y ∷ items) =
      elim (cases_Bool (is_same (name y) m)) [
        | inl e ↦ rw (stays_apart m apart y e, e) refl
        | inr e ↦ elim (cases_Bool (is_same (name y) n)) [
          | inl d ↦ rw (d, e) (find_without m apart items)
          | inr k ↦ rw (k, e) (find_without m apart items)
        ]
      ]

  named_without : (m : List ℕ) → is_same m n ≡ false → (items : List X) → is_named name (without name items n) m ≡ is_named name items m
  named_without m apart [] = refl
  named_without m apart (y ∷ items) =
      elim (cases_Bool (is_same (name y) m)) [
        | inl e ↦ rw (stays_apart m apart y e, e) refl
        | inr e ↦ elim (cases_Bool (is_same (name y) n)) [
          | inl d ↦ rw (d, e) (named_without m apart items)
          | inr k ↦ rw (k, e) (named_without m apart items)
        ]
      ]

  pub kept_by_drop : (items : List X) → Keeps name items (without name items n) (λ m. is_same m n) (λ m. is_same m n)
  kept_by_drop items = record {
    names = λ m g known. named_without m g items ∙ known;
    first = λ m d o known. same_first (λ y. is_same (name y) m) (without name items n) items d (find_without m o items);
  }

  pub NamesRise-without : (items : List X) → NamesRise name items → NamesRise name (without name items n)
  NamesRise-without items rise = AllPairs-filter (λ a b. IsBefore (name a) (name b)) (λ y. not (is_same (name y) n)) items rise

  pub length-without : (items : List X) → length (without name items n) ≤ length items
  length-without [] = omega arith
  length-without (y ∷ items) =
      elim (cases_Bool (is_same (name y) n)) [
        | inl e ↦ rw e (omega (arith, length-without items))
        | inr e ↦ rw e (omega (arith, length-without items))
      ]

  pub not_named-without : (m : List ℕ) (items : List X) → is_named name items m ≡ false → is_named name (without name items n) m ≡ false
  not_named-without m items out =
      list_any_none (λ y. is_same (name y) m) (without name items n)
      (All-filter (λ y. not (is_same (name y) n)) (λ y. is_same (name y) m ≡ false) items (none_passes (λ y. is_same (name y) m) items out))
