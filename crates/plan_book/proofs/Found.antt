-- The shelf of a name, as it is found among shelves.
use Rattle.std.proofs.Common.{◌≡◌, ℕ, true, false, List, [], ◌∷◌, length, Some, None, Result, Ok, Err, refl, sym, ap, ◌∙◌, inl, inr, arith}
use Rattle.std.specs.Prelude.{find, MatchResult, slice_get}
use Rattle.std.specs.List.Sorted.{IsBinarySearchResult, IsSearchInRange}
use Rattle.std.specs.Cmp.Lexicographic.{slice_cmp}
use Rattle.std.specs.Ordering.{nat_cmp}
use Rattle.std.proofs.lemmas.Bool.{cases_Bool}
use Rattle.std.proofs.lemmas.List.Folds.{find_at}
use Rattle.rail_model.specs.Name.{is_same, NamesRise}
use Rattle.rail_model.specs.Rules.{is_named}
use Rattle.rail_model.specs.Tables.{number_of}
use Rattle.rail_model.proofs.NameOrder.{same_name}
use Rattle.rail_model.proofs.Places.{searched, place_searched, is_named-place, number_of-missing}
use Rattle.plan_book.specs.declared.shelf.Shelf.{Shelf}
use Rattle.plan_book.specs.Shelves.{IsPlaceOf, IsPlaceFor}

abbrev pub label : Shelf → List ℕ
label s = s.name

pub searched_is : (shelves : List Shelf) (n : List ℕ) (r : Result ℕ ℕ) → NamesRise label shelves
    → IsSearchInRange r (length shelves) → IsBinarySearchResult (λ s. slice_cmp nat_cmp (label s) n) shelves r
    → MatchResult r (IsPlaceOf shelves n) (IsPlaceFor shelves n)
searched_is shelves n (Ok i) rise l h =
    let found = searched label shelves n (Ok i) rise l h in
    record { within = found.in_range; number = found.number }
searched_is shelves n (Err i) rise l h =
    let p = place_searched label shelves n i rise l h in
    record { within = p.within; below = p.below; above = p.above }

-- what is found has the name
pub found_name : (shelves : List Shelf) (n : List ℕ) (s : Shelf) → find (λ x. is_same x.name n) shelves ≡ Some s → s.name ≡ n
found_name [] n s h = absurd (cc)
found_name (x ∷ shelves) n s h =
    elim (cases_Bool (is_same x.name n)) [
      | inl same ↦ let it : Some x ≡ Some s = sym (rw same refl) ∙ h in
          let is : x ≡ s = cc in ap label (sym is) ∙ same_name x.name n same
      | inr apart ↦ found_name shelves n s (sym (rw apart refl) ∙ h)
    ]

-- the shelf at the place of a name is found
pub found_at : (shelves : List Shelf) (n : List ℕ) (i : ℕ) (s : Shelf) → i ≡ number_of label shelves n → slice_get shelves i ≡ Some s
    → find (λ x. is_same x.name n) shelves ≡ Some s
found_at shelves n i s number at = find_at (λ x. is_same x.name n) shelves ∙ ap (slice_get shelves) (sym number) ∙ at

missing : (shelves : List Shelf) (n : List ℕ) → is_named label shelves n ≡ false → find (λ x. is_same x.name n) shelves ≡ None
missing [] n out = refl
missing (x ∷ xs) n out =
    elim (cases_Bool (is_same x.name n)) [
      | inl same ↦ let it : true ≡ false = sym (rw same refl) ∙ out in absurd (cc)
      | inr apart ↦ rw apart (missing xs n (sym (rw apart refl) ∙ out))
    ]

pub not_found : (shelves : List Shelf) (n : List ℕ) (i : ℕ) → IsPlaceFor shelves n i → find (λ x. is_same x.name n) shelves ≡ None
not_found shelves n i p =
    missing shelves n (is_named-place label shelves n i (record { within = p.within; below = p.below; above = p.above }))

-- a name whose place there is stands among shelves
pub named_at : (shelves : List Shelf) (n : List ℕ) (i : ℕ) → IsPlaceOf shelves n i → is_named label shelves n ≡ true
named_at shelves n i p = elim (cases_Bool (is_named label shelves n)) [
  | inl e ↦ e
  | inr e ↦ absurd (omega (arith, number_of-missing label shelves n e, p.number, p.within))
]
