-- What stands under a key after an edit of a table.
use Rattle.std.proofs.Common.{◌≡◌, ℕ, ◌==◌, Bool, true, false, cond, List, [], ◌∷◌, get_or, take, drop, insert, Option, Some, None, refl, sym, ap, ◌∙◌, inl, inr}
use Rattle.std.specs.Prelude.{option_map, All}
use Rattle.std.specs.Option.{option_or}
use Rattle.std.specs.List.{find}
use Rattle.std.proofs.lemmas.Bool.{cases_Bool, both_ways, eqb-true, eq-eqb, false_from_ne_true}
use Rattle.std.proofs.lemmas.List.{take-append-drop, get_or_default}
use Rattle.std.proofs.lemmas.List.Elements.{All-head, All-tail}
use Rattle.std.proofs.lemmas.List.Folds.{find-append}
use Rattle.rail_model.specs.Name.{is_same}
use Rattle.rail_model.specs.Rules.{is_named, with_item, without}
use Rattle.rail_model.proofs.NameOrder.{same_name, is_same-from}
use Rattle.rail_model.proofs.Numbers.{eqb-sym}
use Rattle.rail_model.proofs.Places.{place, with_item-place}
use Rattle.line_tables.specs.Table.{under, with_change, named, key_of, entry_of, IsTable}
use Rattle.line_tables.proofs.Filed.{some_from_map}
use Rattle.line_tables.proofs.Found.{find_some, found_by_key}
use Rattle.line_tables.proofs.Views.{key_by_name}

-- under one key stands something else now (or nothing), and under all others what stood there
abbrev pub IsSwapped : {X : Type 0} → List (ℕ × X) → List (ℕ × X) → ℕ → Option X → Type 0
IsSwapped old new k now = (r : ℕ) → under new r ≡ cond (r == k) now (under old r)

none_first : {X : Type 0} (a b : Option X) → option_or a b ≡ None → a ≡ None
none_first None b e = refl
none_first (Some x) b e = e

none_mapped : {X Y : Type 0} (f : X → Y) (o : Option X) → option_map f o ≡ None → o ≡ None
none_mapped f None e = refl
none_mapped f (Some x) e = absurd (cc)

module _ {X : Type 0} where
  swapped_by_insert : (items : List (ℕ × X)) (i k : ℕ) (x : X) → under items k ≡ None → IsSwapped items (insert items i (k, x)) k (Some x)
  swapped_by_insert items i k x vacant r =
      let test : ℕ × X → Bool = λ e. e.0 == r in
      let front = take i items in
      let back = drop i items in
      let whole : find test items ≡ option_or (find test front) (find test back) = ap (find test) (sym (take-append-drop i items)) ∙ find-append test front back in
      let more : find test (insert items i (k, x)) ≡ option_or (find test front) (cond (test (k, x)) (Some (k, x)) (find test back)) = find-append test front ((k, x) ∷ back) in
      elim (cases_Bool (r == k)) [
        | inl e ↦
            let none : find test items ≡ None = none_mapped (λ e. e.1) (find test items) (ap (under items) (eqb-true r k e) ∙ vacant) in
            let first : find test front ≡ None = none_first (find test front) (find test back) (sym whole ∙ none) in
            let here : (k == r) ≡ true = eqb-sym k r ∙ e in
            ap (option_map (λ e. e.1)) more ∙ rw (first, here, e) refl
        | inr e ↦
            let here : (k == r) ≡ false = eqb-sym k r ∙ e in
            ap (option_map (λ e. e.1)) more ∙ rw (e, here, whole) refl
      ]

  pub swapped_by_change : (items : List (ℕ × X)) (k : ℕ) (old x : X) → under items k ≡ Some old → IsSwapped items (with_change items k x) k (Some x)
  swapped_by_change items k old x here r =
      changed items r ∙ elim (cases_Bool (r == k)) [ inl e ↦ rw (e, eqb-true r k e, here) refl | inr e ↦ rw e refl ]
    where
      changed : (items : List (ℕ × X)) (r : ℕ) → under (with_change items k x) r ≡ cond (r == k) (option_map (λ y. x) (under items r)) (under items r)
      changed [] r = elim (cases_Bool (r == k)) [ inl e ↦ rw e refl | inr e ↦ rw e refl ]
      changed (y ∷ items) r =
          let rest = changed items r in
          elim (cases_Bool (y.0 == k)) [
            | inl t ↦ elim (cases_Bool (r == k)) [
              | inl e ↦
                  let key : (k == r) ≡ true = eqb-sym k r ∙ e in
                  let mine : (y.0 == r) ≡ true = ap (λ q. q == r) (eqb-true y.0 k t) ∙ key in
                  rw (t, e, key, mine) refl
              | inr e ↦
                  let key : (k == r) ≡ false = eqb-sym k r ∙ e in
                  let mine : (y.0 == r) ≡ false = ap (λ q. q == r) (eqb-true y.0 k t) ∙ key in
                  rw (t, e, key, mine) (rw e at rest)
            ]
            | inr t ↦ elim (cases_Bool (y.0 == r)) [
              | inl u ↦
                  let apart : (r == k) ≡ false = ap (λ q. q == k) (sym (eqb-true y.0 r u)) ∙ t in
                  rw (t, u, apart) refl
              | inr u ↦ rw (t, u) rest
            ]
          ]

  module _ (name : X → List ℕ) where
    pub swapped_by_put : (items : List (ℕ × X)) (k : ℕ) (x : X) → IsTable name items → is_named (named name) items (name x) ≡ false → under items k ≡ None → IsSwapped items (with_item (named name) items (k, x)) k (Some x)
    swapped_by_put items k x table new vacant =
        let here = place (named name) items (name x) table.rise new in
        rw (with_item-place (named name) items (k, x) (name x) here.0 refl here.1) (swapped_by_insert items here.0 k x vacant)

    -- in a table the item of a name is the one under its key
    one_key : (items : List (ℕ × X)) (n : List ℕ) (k : ℕ) → IsTable name items → key_of name items n ≡ Some k → All (λ e. is_same (name e.1) n ≡ (e.0 == k)) items
    one_key items n k table key i d l =
        let here = get_or items i d in
        let found = found_by_key name items n k table key in
        elim (cases_Bool (is_same (name here.1) n)) [
          | inl s ↦
              let y = some_from_map (λ (e : ℕ × X). e.0) (entry_of name items n) k key in
              let there = find_some (λ (e : ℕ × X). is_same (name e.1) n) items y.0 y.1 in
              let SameKey : ℕ × X → Type 0 = λ y. name here.1 ≡ name y.1 → here.0 ≡ y.0 in
              let all : (P : ℕ × X → Type 0) → All P items → P y.0 = there.1 in
              let one : here.0 ≡ y.0.0 = all SameKey (λ j c lj same. let at = get_or_default items i d c l in let k = key_by_name (λ (x : X). x) name items i j c table l lj (ap (λ (y : ℕ × X). name y.1) (sym at) ∙ same) in ap (λ (y : ℕ × X). y.0) at ∙ k) (same_name (name here.1) n s ∙ sym (same_name (name y.0.1) n there.0)) in
              s ∙ sym (eq-eqb here.0 k (one ∙ y.2))
          | inr s ↦
              let apart : (here.0 == k) ≡ false =
              false_from_ne_true (here.0 == k)
              (λ t.
              let both : Some here.1 ≡ Some found.0 = sym (table.keys i d l) ∙ ap (under items) (eqb-true here.0 k t) ∙ found.1.under in
              let item : here.1 ≡ found.0 = cc in
              both_ways (is_same (name here.1) n) s (is_same-from (name here.1) n (ap name item ∙ found.1.label))) in
              s ∙ sym apart
        ]

    pub swapped_by_drop : (items : List (ℕ × X)) (n : List ℕ) (k : ℕ) → IsTable name items → key_of name items n ≡ Some k → IsSwapped items (without (named name) items n) k None
    swapped_by_drop items n k table key r = rest items (one_key items n k table key)
      where
        rest : (items : List (ℕ × X)) → All (λ e. is_same (name e.1) n ≡ (e.0 == k)) items → under (without (named name) items n) r ≡ cond (r == k) None (under items r)
        rest [] all = elim (cases_Bool (r == k)) [ inl e ↦ rw e refl | inr e ↦ rw e refl ]
        rest (y ∷ items) all =
            let P : ℕ × X → Type 0 = λ e. is_same (name e.1) n ≡ (e.0 == k) in
            let more = rest items (All-tail P y items all) in
            let first = All-head P y items all in
            elim (cases_Bool (y.0 == k)) [
              | inl t ↦ elim (cases_Bool (r == k)) [
                | inl e ↦ rw (first, t, e) (rw e at more)
                | inr e ↦
                    let mine : (y.0 == r) ≡ false = ap (λ q. q == r) (eqb-true y.0 k t) ∙ eqb-sym k r ∙ e in
                    rw (first, t, e, mine) (rw e at more)
              ]
              | inr t ↦ elim (cases_Bool (y.0 == r)) [
                | inl u ↦
                    let apart : (r == k) ≡ false = ap (λ q. q == k) (sym (eqb-true y.0 r u)) ∙ t in
                    rw (first, t, u, apart) refl
                | inr u ↦ rw (first, t, u) more
              ]
            ]
