-- Shelves of more names, which say what was known without them.
use Rattle.std.proofs.Common.{◌≡◌, ℕ, ◌+◌, ◌<◌, List, [], ◌∷◌, ◌++◌, length, take, drop, get_or, insert, Some, None, refl, sym, ap, ◌∙◌, subst, inl, inr, arith}
use Rattle.std.specs.Prelude.{find, unwrap_or, true}
use Rattle.std.specs.Option.{option_or}
use Rattle.std.proofs.lemmas.Bool.{cases_Bool, cases_lt}
use Rattle.std.proofs.lemmas.List.{take-append-drop, get_or_append_left, get_or_default}
use Rattle.std.proofs.Math.Seq.{get_or-append_seam}
use Rattle.std.proofs.lemmas.List.Folds.{find-append}
use Rattle.rail_model.specs.Name.{is_same, IsBefore, NamesRise}
use Rattle.rail_model.specs.Rules.{is_named}
use Rattle.rail_model.proofs.Lists.{find_none}
use Rattle.rail_model.proofs.NameOrder.{same_name, is_same-from, is_same-before}
use Rattle.rail_model.proofs.Places.{NamesRise-insert, list_any-insert}
use Rattle.plan_book.specs.declared.shelf.Shelf.{Shelf}
use Rattle.plan_book.specs.Shelves.{blank, shelf_of, IsPlaceFor}
use Rattle.plan_book.specs.Changes.{IsAlike, Widens, Keeps}
use Rattle.plan_book.proofs.Found.{not_found}

pub alike_itself : (s : Shelf) → IsAlike s s
alike_itself s = record { name = refl; touched = refl; published = refl; cut = refl }

alike_further : (a b c : Shelf) → IsAlike a b → IsAlike b c → IsAlike a c
alike_further a b c one two = record {
  name = two.name ∙ one.name;
  touched = two.touched ∙ one.touched;
  published = two.published ∙ one.published;
  cut = two.cut ∙ one.cut;
}

pub widens_further : (first : ℕ) (a b c : List Shelf) → Widens first a b → Widens first b c → Widens first a c
widens_further first a b c one two =
    record { rise = two.rise; known = λ name. alike_further _ _ _ (one.known name) (two.known name) }

-- an item of a name among others
named_in : (front back : List Shelf) (s : Shelf) (name : List ℕ) → is_same s.name name ≡ true
    → is_named (λ (x : Shelf). x.name) (front ++ s ∷ back) name ≡ true
named_in [] back s name same = rw same refl
named_in (x ∷ front) back s name same = elim (cases_Bool (is_same x.name name)) [
  | inl e ↦ rw e refl
  | inr e ↦ rw e (named_in front back s name same)
]

module _ (first : ℕ) (shelves : List Shelf) (name : List ℕ) (i : ℕ) (rise : NamesRise (λ s. s.name) shelves) (p : IsPlaceFor shelves name i) where
  abbrev more : List Shelf
  more = insert shelves i (blank first name)

  known_more : (n : List ℕ) → shelf_of first more n ≡ shelf_of first shelves n
  known_more n =
      let test = λ (s : Shelf). is_same s.name n in
      let front = take i shelves in
      let back = drop i shelves in
      let split = find-append test front (blank first name ∷ back) in
      let whole : find test shelves ≡ option_or (find test front) (find test back) =
      ap (find test) (sym (take-append-drop i shelves)) ∙ find-append test front back in
      elim (cases_Bool (is_same name n)) [
        | inl same ↦
            let is : name ≡ n = same_name name n same in
            let none : find test front ≡ None =
            find_none test front (λ k d l. is_same-before (get_or front k d).name n (subst (IsBefore (get_or front k d).name) is (p.below k d l))) in
            let new : find test more ≡ Some (blank first name) = split ∙ rw (none, same) refl in
            let old : find test shelves ≡ None = subst (λ m. find (λ s. is_same s.name m) shelves ≡ None) is (not_found shelves name i p) in
            ap (λ o. unwrap_or o (blank first n)) new ∙ ap (blank first) is ∙ sym (ap (λ o. unwrap_or o (blank first n)) old)
        | inr apart ↦
            let same : find test more ≡ find test shelves = split ∙ rw apart (sym whole) in
            ap (λ o. unwrap_or o (blank first n)) same
      ]

  pub blank_widens : Widens first shelves more
  blank_widens = record {
    rise = NamesRise-insert (λ (s : Shelf). s.name) shelves (blank first name) i rise (record { within = p.within; below = p.below; above = p.above });
    known = λ n. subst (IsAlike (shelf_of first shelves n)) (sym (known_more n)) (alike_itself (shelf_of first shelves n));
  }

  pub blank_there : is_named (λ (s : Shelf). s.name) more name ≡ true
  blank_there = named_in (take i shelves) (drop i shelves) (blank first name) name (is_same-from name name refl)

  pub blank_keeps : Keeps shelves more
  blank_keeps n h = list_any-insert (λ (s : Shelf). is_same s.name n) shelves i (blank first name) h

-- what holds of items side by side holds with one more of each
pub each_more : {X Y : Type 0} (R : X → Y → Type 0) (xs : List X) (ys : List Y) (i : ℕ) (x : X) (y : Y) → length ys ≡ i → i < length xs
    → x ≡ get_or xs i x → ((k : ℕ) (d : X) (e : Y) → k < i → R (get_or xs k d) (get_or ys k e)) → R x y
    → (k : ℕ) (d : X) (e : Y) → k < i + 1 → R (get_or xs k d) (get_or (ys ++ y ∷ []) k e)
each_more R xs ys i x y count within is each one k d e below = elim (cases_lt k i) [
  | inl early ↦ rw (get_or_append_left ys (y ∷ []) e k (omega (arith, early, count))) (each k d e early)
  | inr late ↦
      let here : k ≡ i = omega (arith, below, late) in
      let last : k ≡ length ys = omega (arith, here, count) in
      let read : get_or xs k d ≡ x = ap (λ n. get_or xs n d) here ∙ get_or_default xs i d x within ∙ sym is in
      rw read (subst (λ z. R x z) (sym (ap (λ n. get_or (ys ++ y ∷ []) n e) last ∙ get_or-append_seam ys y [] e)) one)
]
