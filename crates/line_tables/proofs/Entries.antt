-- Lists of items with their keys, in the order of names: what a look-up finds after an edit.
use Rattle.std.proofs.Common.{◌≡◌, ℕ, ◌==◌, Bool, true, false, not, cond, List, [], ◌∷◌, ◌++◌, take, drop, insert, Option, Some, None, refl, sym, ap, ◌∙◌, subst, inl, inr}
use Rattle.std.specs.Prelude.{option_map, filter, All, is_some}
use Rattle.std.specs.Option.{option_or}
use Rattle.std.specs.List.{find}
use Rattle.std.proofs.lemmas.Bool.{cases_Bool, eqb-true, or_parts}
use Rattle.std.proofs.lemmas.List.{take-append-drop}
use Rattle.std.proofs.lemmas.List.Elements.{All-head, All-tail, All-weaker, filter-append}
use Rattle.std.proofs.lemmas.List.Folds.{find-append}
use Rattle.std.proofs.lemmas.List.Kept.{AllPairs-filter}
use Rattle.rail_model.specs.Name.{IsBefore, is_same, NamesRise}
use Rattle.rail_model.specs.Rules.{is_named, with_item, without}
use Rattle.rail_model.proofs.Lists.{find_none}
use Rattle.rail_model.proofs.NameOrder.{same_name, is_same-from, is_same-before}
use Rattle.rail_model.proofs.Places.{IsPlace, place, with_item-place, NamesRise-insert}
use Rattle.line_tables.specs.Table.{with_change, named, key_of}

module _ {X : Type 0} (name : X → List ℕ) where
  -- the keys that names have once one more item is put in
  key_of-insert : (items : List (ℕ × X)) (i k : ℕ) (x : X) (n : List ℕ) → IsPlace (named name) items (name x) i → key_of name (insert items i (k, x)) n ≡ cond (is_same (name x) n) (Some k) (key_of name items n)
  key_of-insert items i k x n p =
      let test : ℕ × X → Bool = λ e. is_same (name e.1) n in
      let front = take i items in
      let back = drop i items in
      let key : Option (ℕ × X) → Option ℕ = option_map (λ e. e.0) in
      let whole : find test items ≡ option_or (find test front) (find test back) =
      ap (find test) (sym (take-append-drop i items)) ∙ find-append test front back in
      let more : find test (insert items i (k, x)) ≡ option_or (find test front) (cond (test (k, x)) (Some (k, x)) (find test back)) =
      find-append test front ((k, x) ∷ back) in
      elim (cases_Bool (is_same (name x) n)) [
        | inl e ↦
            let none = find_none test front (All-weaker (λ (y : ℕ × X). IsBefore (name y.1) (name x)) (λ y. test y ≡ false) (λ y b. subst (λ m. is_same (name y.1) m ≡ false) (same_name (name x) n e) (is_same-before (name y.1) (name x) b)) front p.below) in
            let first : find test (insert items i (k, x)) ≡ Some (k, x) = more ∙ rw (none, e) refl in
            rw (e, first) refl
        | inr e ↦
            let same : find test (insert items i (k, x)) ≡ find test items = rw (more, whole, e) refl in
            rw (e, same) refl
      ]

  pub key_of-with_item : (items : List (ℕ × X)) (k : ℕ) (x : X) (n : List ℕ) → NamesRise (named name) items → is_named (named name) items (name x) ≡ false → key_of name (with_item (named name) items (k, x)) n ≡ cond (is_same (name x) n) (Some k) (key_of name items n)
  key_of-with_item items k x n rise new =
      let here = place (named name) items (name x) rise new in
      rw (with_item-place (named name) items (k, x) (name x) here.0 refl here.1) (key_of-insert items here.0 k x n here.1)

  pub rise-with_item : (items : List (ℕ × X)) (k : ℕ) (x : X) → NamesRise (named name) items → is_named (named name) items (name x) ≡ false → NamesRise (named name) (with_item (named name) items (k, x))
  rise-with_item items k x rise new =
      let here = place (named name) items (name x) rise new in
      rw (with_item-place (named name) items (k, x) (name x) here.0 refl here.1) (NamesRise-insert (named name) items (k, x) here.0 rise here.1)

  -- once the item of a name is taken out
  pub key_of-without : (items : List (ℕ × X)) (m n : List ℕ) → key_of name (without (named name) items m) n ≡ cond (is_same m n) None (key_of name items n)
  key_of-without [] m n = elim (cases_Bool (is_same m n)) [ inl e ↦ rw e refl | inr e ↦ rw e refl ]
  key_of-without (y ∷ items) m n =
      let rest = key_of-without items m n in
      elim (cases_Bool (is_same (name y.1) m)) [
        | inl e ↦ elim (cases_Bool (is_same m n)) [
          | inl s ↦ rw (e, s) (rw s at rest)
          | inr s ↦
              let apart : is_same (name y.1) n ≡ false = ap (λ q. is_same q n) (same_name (name y.1) m e) ∙ s in
              rw (e, s, apart) (rw s at rest)
        ]
        | inr e ↦ elim (cases_Bool (is_same m n)) [
          | inl s ↦
              let apart : is_same (name y.1) n ≡ false = subst (λ q. is_same (name y.1) q ≡ false) (same_name m n s) e in
              rw (e, s, apart) (rw s at rest)
          | inr s ↦ elim (cases_Bool (is_same (name y.1) n)) [
            | inl t ↦ rw (e, s, t) refl
            | inr t ↦ rw (e, s, t) (rw s at rest)
          ]
        ]
      ]

  pub rise-without : (items : List (ℕ × X)) (n : List ℕ) → NamesRise (named name) items → NamesRise (named name) (without (named name) items n)
  rise-without items n rise = AllPairs-filter (λ a b. IsBefore (name a.1) (name b.1)) (λ e. not (is_same (name e.1) n)) items rise

  -- an item under a key keeps its name
  abbrev pub KeepsName : ℕ → X → ℕ × X → Type 0
  KeepsName k x e = e.0 ≡ k → name e.1 ≡ name x

  pub key_of-with_change : (items : List (ℕ × X)) (k : ℕ) (x : X) (n : List ℕ) → All (KeepsName k x) items → key_of name (with_change items k x) n ≡ key_of name items n
  key_of-with_change [] k x n h = refl
  key_of-with_change (y ∷ items) k x n h =
      let rest = key_of-with_change items k x n (All-tail (KeepsName k x) y items h) in
      elim (cases_Bool (y.0 == k)) [
        | inl e ↦
            let key = eqb-true y.0 k e in
            let same = All-head (KeepsName k x) y items h key in
            elim (cases_Bool (is_same (name x) n)) [
              | inl t ↦
                  let other : is_same (name y.1) n ≡ true = ap (λ m. is_same m n) same ∙ t in
                  rw (e, t, other) (ap Some (sym key))
              | inr t ↦
                  let other : is_same (name y.1) n ≡ false = ap (λ m. is_same m n) same ∙ t in
                  rw (e, t, other) rest
            ]
        | inr e ↦ elim (cases_Bool (is_same (name y.1) n)) [ inl t ↦ rw (e, t) refl | inr t ↦ rw (e, t) rest ]
      ]

  -- a name that is there has a key
  pub is_some-key_of : (items : List (ℕ × X)) (n : List ℕ) → is_some (key_of name items n) ≡ is_named (named name) items n
  is_some-key_of [] n = refl
  is_some-key_of (y ∷ items) n =
      elim (cases_Bool (is_same (name y.1) n)) [ inl e ↦ rw e refl | inr e ↦ rw e (is_some-key_of items n) ]

  -- ---- an item that is put in and taken out again

  without_none : (items : List (ℕ × X)) (n : List ℕ) → is_named (named name) items n ≡ false → without (named name) items n ≡ items
  without_none [] n h = refl
  without_none (y ∷ items) n h =
      let parts = or_parts (is_same (name y.1) n) (is_named (named name) items n) h in
      rw parts.0 (ap (λ l. y ∷ l) (without_none items n parts.1))

  pub without-with_item : (items : List (ℕ × X)) (k : ℕ) (x : X) → NamesRise (named name) items → is_named (named name) items (name x) ≡ false → without (named name) (with_item (named name) items (k, x)) (name x) ≡ items
  without-with_item items k x rise new =
      let stays : ℕ × X → Bool = λ e. not (is_same (name e.1) (name x)) in
      let here = place (named name) items (name x) rise new in
      let front = take here.0 items in
      let back = drop here.0 items in
      let gone : filter stays ((k, x) ∷ back) ≡ filter stays back = rw (is_same-from (name x) (name x) refl) refl in
      ap (λ l. without (named name) l (name x)) (with_item-place (named name) items (k, x) (name x) here.0 refl here.1)
      ∙ filter-append stays front ((k, x) ∷ back) ∙ ap (λ l. filter stays front ++ l) gone ∙ sym (filter-append stays front back)
      ∙ ap (filter stays) (take-append-drop here.0 items) ∙ without_none items (name x) new

  pub key_of-put : (items : List (ℕ × X)) (k : ℕ) (x : X) → NamesRise (named name) items → is_named (named name) items (name x) ≡ false → key_of name (with_item (named name) items (k, x)) (name x) ≡ Some k
  key_of-put items k x rise new = key_of-with_item items k x (name x) rise new ∙ rw (is_same-from (name x) (name x) refl) refl
