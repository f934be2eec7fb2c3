-- What a table finds by name and by key, and what its edits leave of that.
use Rattle.std.proofs.Common.{◌≡◌, ◌≢◌, ℕ, suc, ◌+◌, ◌==◌, Bool, true, false, not, if◌then◌else◌, List, [], ◌∷◌, get_or, Some, refl, sym, ap, ◌∙◌, subst, inl, inr, arith}
use Rattle.std.specs.Prelude.{filter, map, option_map, All, AllPairs, is_some, sum_by}
use Rattle.std.specs.List.{list_any, find}
use Rattle.std.proofs.lemmas.Bool.{cases_Bool, both_ways, eqb-true}
use Rattle.std.proofs.lemmas.List.Elements.{All-head, All-tail}
use Rattle.std.proofs.lemmas.List.Folds.{map_fixed}
use Rattle.std.proofs.lemmas.List.Sums.{sum_by-cons, sum_by-insert}
use Rattle.rail_model.specs.Name.{is_same, NamesRise}
use Rattle.rail_model.specs.Rules.{is_named, with_item, without}
use Rattle.rail_model.proofs.NameOrder.{same_name, is_same-from, is_same-before, is_same-after}
use Rattle.rail_model.proofs.Places.{place, with_item-place, filter_all}
use Rattle.line_tables.specs.Table.{under, with_change, named, key_of, entry_of, item_of, IsTable}
use Rattle.line_tables.proofs.Filed.{some_from_map}
use Rattle.line_tables.proofs.Entries.{KeepsName, key_of-with_item, key_of-without, key_of-with_change, is_some-key_of}

-- what a search finds passes, and stands in the list
pub find_some : {X : Type 0} (p : X → Bool) (xs : List X) (x : X) → find p xs ≡ Some x → (p x ≡ true) × ((P : X → Type 0) → All P xs → P x)
find_some p [] x e = absurd (cc)
find_some p (y ∷ xs) x e =
    elim (cases_Bool (p y)) [
      | inl t ↦
          let same : y ≡ x = let s : Some y ≡ Some x = rw t at e in cc in
          (rw (← same) t, λ P all. subst P same (All-head P y xs all))
      | inr t ↦
          let rest = find_some p xs x (rw t at e) in
          (rest.0, λ P all. rest.1 P (All-tail P y xs all))
    ]

pub list_any-map : {X Y : Type 0} (f : X → Y) (p : Y → Bool) (xs : List X) → list_any p (map f xs) ≡ list_any (λ x. p (f x)) xs
list_any-map f p [] = refl
list_any-map f p (x ∷ xs) = elim (cases_Bool (p (f x))) [ inl e ↦ rw e refl | inr e ↦ rw e (list_any-map f p xs) ]

pub filter-map : {X Y : Type 0} (f : X → Y) (p : Y → Bool) (xs : List X) → filter p (map f xs) ≡ map f (filter (λ x. p (f x)) xs)
filter-map f p [] = refl
filter-map f p (x ∷ xs) =
    elim (cases_Bool (p (f x))) [ inl e ↦ rw e (ap (λ l. f x ∷ l) (filter-map f p xs)) | inr e ↦ rw e (filter-map f p xs) ]

module _ {X : Type 0} (name : X → List ℕ) where
  -- the item of a name stands under the key of that name
  pub record IsFound (items : List (ℕ × X)) (n : List ℕ) (k : ℕ) (x : X) : Type 0 where
    pub under : under items k ≡ Some x
    pub label : name x ≡ n
    pub item : item_of name items n ≡ Some x

  pub found_by_key : (items : List (ℕ × X)) (n : List ℕ) (k : ℕ) → IsTable name items → key_of name items n ≡ Some k → (x : X) × IsFound items n k x
  found_by_key items n k table e =
      let entry = some_from_map (λ (e : ℕ × X). e.0) (entry_of name items n) k e in
      let some = find_some (λ (e : ℕ × X). is_same (name e.1) n) items entry.0 entry.1 in
      let here = some.1 (λ e. under items e.0 ≡ Some e.1) table.keys in (
        entry.0.1,
        record {
          under = ap (under items) (sym entry.2) ∙ here;
          label = same_name (name entry.0.1) n some.0;
          item = ap (option_map (λ (e : ℕ × X). e.1)) entry.1;
        },
      )

  pub name_under : (items : List (ℕ × X)) (n : List ℕ) (k : ℕ) → IsTable name items → key_of name items n ≡ Some k → option_map name (under items k) ≡ Some n
  name_under items n k table e =
      let x = found_by_key items n k table e in
      rw x.1.under (ap Some x.1.label)

  -- two names of one key are one name
  pub name_of_key : (items : List (ℕ × X)) (m n : List ℕ) (k : ℕ) → IsTable name items → key_of name items m ≡ Some k → key_of name items n ≡ Some k → m ≡ n
  name_of_key items m n k table a b =
      let x = found_by_key items m k table a in
      let y = found_by_key items n k table b in
      let same : Some x.0 ≡ Some y.0 = sym x.1.under ∙ y.1.under in
      let item : x.0 ≡ y.0 = cc in
      sym x.1.label ∙ ap name item ∙ y.1.label

  -- items under different places of a table have different keys
  pub keys_differ : (items : List (ℕ × X)) → IsTable name items → AllPairs (λ a b. a.0 ≢ b.0) items
  keys_differ items table i j d lt l same =
      let a = table.keys i d (omega arith) in
      let b = table.keys j d l in
      let both : Some (get_or items i d).1 ≡ Some (get_or items j d).1 = sym a ∙ ap (under items) same ∙ b in
      let item : (get_or items i d).1 ≡ (get_or items j d).1 = cc in
      let before = table.rise i j d lt l in
      let a_name = name (get_or items i d).1 in
      let b_name = name (get_or items j d).1 in
      both_ways (is_same a_name b_name) (is_same-before a_name b_name before) (is_same-from a_name b_name (ap name item))

  -- ---- what keys stay

  pub key_after_put : (items : List (ℕ × X)) (k j : ℕ) (x : X) (n : List ℕ) → NamesRise (named name) items → is_named (named name) items (name x) ≡ false → key_of name items n ≡ Some j → key_of name (with_item (named name) items (k, x)) n ≡ Some j
  key_after_put items k j x n rise new e =
      key_of-with_item name items k x n rise new
      ∙ elim (cases_Bool (is_same (name x) n)) [
        | inl s ↦
            let there : is_named (named name) items (name x) ≡ true =
            sym (is_some-key_of name items (name x)) ∙ ap is_some (ap (key_of name items) (same_name (name x) n s) ∙ e) in
            absurd (both_ways (is_named (named name) items (name x)) new there)
        | inr s ↦ rw s e
      ]

  pub keeps_name : (items : List (ℕ × X)) (k : ℕ) (x : X) → IsTable name items → option_map name (under items k) ≡ Some (name x) → All (KeepsName name k x) items
  keeps_name items k x table e i d l key =
      let here = table.keys i d l in
      let there : option_map name (Some (get_or items i d).1) ≡ Some (name x) = ap (option_map name) (sym here ∙ ap (under items) key) ∙ e in
      (cc)

  pub key_after_change : (items : List (ℕ × X)) (k : ℕ) (x : X) (n : List ℕ) → IsTable name items → option_map name (under items k) ≡ Some (name x) → key_of name (with_change items k x) n ≡ key_of name items n
  key_after_change items k x n table e = key_of-with_change name items k x n (keeps_name items k x table e)

  pub key_after_drop : (items : List (ℕ × X)) (m n : List ℕ) (k j : ℕ) → key_of name items m ≡ Some k → key_of name items n ≡ Some j → j ≢ k → key_of name (without (named name) items m) n ≡ Some j
  key_after_drop items m n k j a b apart =
      key_of-without name items m n
      ∙ elim (cases_Bool (is_same m n)) [
        | inl s ↦
            let both : Some k ≡ Some j = sym a ∙ ap (key_of name items) (same_name m n s) ∙ b in
            absurd (apart (cc))
        | inr s ↦ rw s b
      ]

  -- ---- sums over the items

  pub sum-with_item : (f : ℕ × X → ℕ) (items : List (ℕ × X)) (y : ℕ × X) → NamesRise (named name) items → is_named (named name) items (name y.1) ≡ false → sum_by f (with_item (named name) items y) ≡ sum_by f items + f y
  sum-with_item f items y rise new =
      let here = place (named name) items (name y.1) rise new in
      rw (with_item-place (named name) items y (name y.1) here.0 refl here.1) (sum_by-insert f items here.0 y)

  pub sum-without : (f : ℕ × X → ℕ) (items : List (ℕ × X)) (n : List ℕ) (y : ℕ × X) → NamesRise (named name) items → entry_of name items n ≡ Some y → sum_by f (without (named name) items n) + f y ≡ sum_by f items
  sum-without f [] n y rise e = absurd (cc)
  sum-without f (z ∷ items) n y rise e =
      let tail : NamesRise (named name) items = λ i j d lt l. rise (suc i) (suc j) d (omega arith) (omega arith) in
      let stays : ℕ × X → Bool = λ e. not (is_same (name e.1) n) in
      elim (cases_Bool (is_same (name z.1) n)) [
        | inl t ↦
            let same : z ≡ y = let s : Some z ≡ Some y = rw t at e in cc in
            let rest : filter stays items ≡ items =
            filter_all stays items
            (λ k d l. ap not (subst (λ m. is_same (name (get_or items k d).1) m ≡ false) (same_name (name z.1) n t) (is_same-after (name z.1) (name (get_or items k d).1) (rise 0 (suc k) d (omega arith) (omega arith))))) in
            rw (t, rest) (omega (arith, sum_by-cons f z items, ap f same))
        | inr t ↦
            let rest = sum-without f items n y tail (rw t at e) in
            rw t (omega (arith, sum_by-cons f z items, sum_by-cons f z (filter stays items), rest))
      ]

  sum_changed : (f : ℕ × X → ℕ) (items : List (ℕ × X)) (k : ℕ) (old x : X) → AllPairs (λ a b. a.0 ≢ b.0) items → under items k ≡ Some old → sum_by f (with_change items k x) + f (k, old) ≡ sum_by f items + f (k, x)
  sum_changed f [] k old x apart e = absurd (cc)
  sum_changed f (z ∷ items) k old x apart e =
      let change : ℕ × X → ℕ × X = λ e. if e.0 == k then (k, x) else e in
      elim (cases_Bool (z.0 == k)) [
        | inl t ↦
            let key = eqb-true z.0 k t in
            let s : Some z.1 ≡ Some old = rw t at e in
            let item : z.1 ≡ old = cc in
            let same : z ≡ (k, old) = ap (λ q. (q, z.1)) key ∙ ap (λ y. (k, y)) item in
            let rest : map change items ≡ items =
            map_fixed change items
            (λ i d l. elim (cases_Bool ((get_or items i d).0 == k)) [
              | inl u ↦ absurd (apart 0 (suc i) d (omega arith) (omega arith) (key ∙ sym (eqb-true (get_or items i d).0 k u)))
              | inr u ↦ rw u refl
            ]) in
            rw (t, rest) (omega (arith, sum_by-cons f z items, sum_by-cons f (k, x) items, ap f same))
        | inr t ↦
            let rest = sum_changed f items k old x (λ i j d lt l. apart (suc i) (suc j) d (omega arith) (omega arith)) (rw t at e) in
            rw t (omega (arith, sum_by-cons f z items, sum_by-cons f z (map change items), rest))
      ]

  pub sum-with_change : (f : ℕ × X → ℕ) (items : List (ℕ × X)) (k : ℕ) (old x : X) → IsTable name items → under items k ≡ Some old → sum_by f (with_change items k x) + f (k, old) ≡ sum_by f items + f (k, x)
  sum-with_change f items k old x table e = sum_changed f items k old x (keys_differ items table) e
