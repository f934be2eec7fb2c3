-- Edits of a list of entries as edits of the list of their items.
use Rattle.std.proofs.Common.{◌≡◌, ℕ, ◌<◌, ◌≤◌, ◌==◌, Bool, false, not, if◌then◌else◌, List, [], ◌∷◌, length, get_or, Option, Some, None, refl, sym, ap, ◌∙◌, inl, inr, arith}
use Rattle.std.specs.Prelude.{filter, map, option_map, unwrap_or, All, sum_by}
use Rattle.std.specs.List.{list_all, find}
use Rattle.std.proofs.lemmas.Bool.{cases_Bool, both_ways, eqb-true, eq-eqb, cases_order}
use Rattle.std.proofs.lemmas.List.{map-append, get_or_default, get_or_past}
use Rattle.std.proofs.lemmas.List.Sums.{sum_by-cons}
use Rattle.std.proofs.lemmas.Simd.{map-map}
use Rattle.std.proofs.lemmas.Option.{unwrap_or-slice_get}
use Rattle.std.proofs.lemmas.List.Folds.{find_at}
use Rattle.rail_model.specs.Tables.{number_of}
use Rattle.rail_model.proofs.Places.{number_of-missing}
use Rattle.rail_model.specs.Name.{is_before, is_same}
use Rattle.rail_model.specs.Rules.{is_named, with_item, with_changed, without}
use Rattle.rail_model.proofs.NameOrder.{same_name, is_same-from, is_same-before}
use Rattle.rail_model.proofs.Lists.{map_same, find-map}
use Rattle.line_tables.specs.Table.{under, with_change, key_of, entry_of, IsTable}
use Rattle.line_tables.proofs.Filed.{some_from_map}
use Rattle.line_tables.proofs.Found.{find_some, list_any-map, filter-map, keeps_name, found_by_key}

pub list_all_same : {X : Type 0} (p q : X → Bool) → ((x : X) → p x ≡ q x) → (xs : List X) → list_all p xs ≡ list_all q xs
list_all_same p q same [] = refl
list_all_same p q same (x ∷ xs) = rw (same x, list_all_same p q same xs) refl

-- one part of a sum
pub found_in_sum : {X : Type 0} (f : X → ℕ) (p : X → Bool) (xs : List X) (x : X) → find p xs ≡ Some x → f x ≤ sum_by f xs
found_in_sum f p [] x e = absurd (cc)
found_in_sum f p (y ∷ xs) x e =
    elim (cases_Bool (p y)) [
      | inl t ↦
          let s : Some y ≡ Some x = rw t at e in
          let same : y ≡ x = cc in
          omega (arith, sum_by-cons f y xs, ap f same)
      | inr t ↦ omega (arith, sum_by-cons f y xs, found_in_sum f p xs x (rw t at e))
    ]

module _ {X Y : Type 0} (f : X → Y) (name : Y → List ℕ) where
  pub is_named-map : (xs : List X) (n : List ℕ) → is_named name (map f xs) n ≡ is_named (λ x. name (f x)) xs n
  is_named-map xs n = list_any-map f (λ y. is_same (name y) n) xs

  pub map-with_item : (xs : List X) (x : X) → map f (with_item (λ y. name (f y)) xs x) ≡ with_item name (map f xs) (f x)
  map-with_item xs x =
      map-append f (filter (λ y. is_before (name (f y)) (name (f x))) xs) (x ∷ filter (λ y. is_before (name (f x)) (name (f y))) xs)
      ∙ rw (filter-map f (λ y. is_before (name y) (name (f x))) xs, filter-map f (λ y. is_before (name (f x)) (name y)) xs) refl

  pub map-without : (xs : List X) (n : List ℕ) → map f (without (λ y. name (f y)) xs n) ≡ without name (map f xs) n
  map-without xs n = sym (filter-map f (λ y. not (is_same (name y) n)) xs)

  -- of two items of one name in a table the keys are one
  pub key_by_name : (items : List (ℕ × X)) (i j : ℕ) (d : ℕ × X) → IsTable (λ x. name (f x)) items → i < length items → j < length items → name (f (get_or items i d).1) ≡ name (f (get_or items j d).1) → (get_or items i d).0 ≡ (get_or items j d).0
  key_by_name items i j d table li lj same =
      let a = name (f (get_or items i d).1) in
      let b = name (f (get_or items j d).1) in
      elim (cases_order i j) [
        | inl e ↦ ap (λ k. (get_or items k d).0) e
        | inr o ↦ elim o [
          | inl lt ↦ absurd (both_ways (is_same a b) (is_same-before a b (table.rise i j d lt lj)) (is_same-from a b same))
          | inr gt ↦ absurd (both_ways (is_same b a) (is_same-before b a (table.rise j i d gt li)) (is_same-from b a (sym same)))
        ]
      ]

  pub map-with_change : (items : List (ℕ × X)) (k : ℕ) (x : X) → IsTable (λ x. name (f x)) items → option_map (λ x. name (f x)) (under items k) ≡ Some (name (f x)) → map (λ e. f e.1) (with_change items k x) ≡ with_changed name (map (λ e. f e.1) items) (f x)
  map-with_change items k x table e =
      let label : X → List ℕ = λ x. name (f x) in
      let change : ℕ × X → ℕ × X = λ e. if e.0 == k then (k, x) else e in
      let changed : Y → Y = λ y. if is_same (name y) (name (f x)) then f x else y in
      let keeps = keeps_name label items k x table e in
      let old = some_from_map label (under items k) (name (f x)) e in
      let entry = some_from_map (λ (e : ℕ × X). e.1) (find (λ (e : ℕ × X). e.0 == k) items) old.0 old.1 in
      let there = find_some (λ (e : ℕ × X). e.0 == k) items entry.0 entry.1 in
      let label_is : label entry.0.1 ≡ name (f x) = ap label entry.2 ∙ old.2 in
      map-map (λ (e : ℕ × X). f e.1) change items
      ∙ map_same (λ e. f (change e).1) (λ e. changed (f e.1)) items
      (λ i d l.
      let here = get_or items i d in
      elim (cases_Bool (here.0 == k)) [
        | inl t ↦ rw (t, is_same-from (label here.1) (label x) (keeps i d l (eqb-true here.0 k t))) refl
        | inr t ↦
            let apart : is_same (label here.1) (label x) ≡ false =
            elim (cases_Bool (is_same (label here.1) (label x))) [
              | inl s ↦
                  let SameKey : ℕ × X → Type 0 = λ y. label here.1 ≡ label y.1 → here.0 ≡ y.0 in
                  let all : (P : ℕ × X → Type 0) → All P items → P entry.0 = there.1 in
                  let key : here.0 ≡ entry.0.0 = all SameKey (λ j c lj same. let at = get_or_default items i d c l in let k = key_by_name items i j c table l lj (ap (λ (y : ℕ × X). label y.1) (sym at) ∙ same) in ap (λ (y : ℕ × X). y.0) at ∙ k) (same_name (label here.1) (label x) s ∙ sym label_is) in
                  absurd (both_ways (here.0 == k) t (eq-eqb here.0 k (key ∙ eqb-true entry.0.0 k there.0)))
              | inr s ↦ s
            ] in
            rw (t, apart) refl
      ])
      ∙ sym (map-map changed (λ (e : ℕ × X). f e.1) items)

  map_twice : (o : Option (ℕ × X)) → option_map (λ e. f e.1) o ≡ option_map f (option_map (λ e. e.1) o)
  map_twice None = refl
  map_twice (Some e) = refl

  -- the item that a look-up by name gives stands under the key of the name
  pub item_named : (items : List (ℕ × X)) (n : List ℕ) (k : ℕ) (x : X) (d : Y) → IsTable (λ x. name (f x)) items → key_of (λ x. name (f x)) items n ≡ Some k → under items k ≡ Some x → get_or (map (λ e. f e.1) items) (number_of name (map (λ e. f e.1) items) n) d ≡ f x
  item_named items n k x d table key here =
      let label : X → List ℕ = λ x. name (f x) in
      let item : ℕ × X → Y = λ e. f e.1 in
      let test : Y → Bool = λ y. is_same (name y) n in
      let y = found_by_key label items n k table key in
      let both : Some y.0 ≡ Some x = sym y.1.under ∙ here in
      let same : y.0 ≡ x = cc in
      sym (unwrap_or-slice_get (map item items) (number_of name (map item items) n) d)
      ∙ ap (λ o. unwrap_or o d) (sym (find_at test (map item items)) ∙ find-map item test items ∙ map_twice (entry_of label items n) ∙ ap (option_map f) y.1.item)
      ∙ ap f same

  pub item_missing : (items : List (ℕ × X)) (n : List ℕ) (d : Y) → is_named (λ e. name (f e.1)) items n ≡ false → get_or (map (λ e. f e.1) items) (number_of name (map (λ e. f e.1) items) n) d ≡ d
  item_missing items n d out =
      let item : ℕ × X → Y = λ e. f e.1 in
      let past = number_of-missing name (map item items) n (list_any-map item (λ y. is_same (name y) n) items ∙ out) in
      get_or_past (map item items) _ d (omega (arith, past))

pub number_of-map : {X Y : Type 0} (f : X → Y) (name : Y → List ℕ) (xs : List X) (n : List ℕ) → number_of name (map f xs) n ≡ number_of (λ x. name (f x)) xs n
number_of-map f name [] n = refl
number_of-map f name (x ∷ xs) n =
    elim (cases_Bool (is_same (name (f x)) n)) [ inl e ↦ rw e refl | inr e ↦ rw (e, number_of-map f name xs n) refl ]
