-- What a book keeps beside its journal, after a publication.
use Rattle.std.proofs.Common.{◌≡◌, ℕ, zero, suc, ◌<◌, List, [], ◌∷◌, ◌++◌, length, get_or, Some, None, Ok, refl, sym, ap, ◌∙◌, subst, inl, inr, arith}
use Rattle.std.specs.Prelude.{slice_set, find, unwrap_or, slice_get, false}
use Rattle.std.proofs.lemmas.Bool.{cases_Bool}
use Rattle.std.proofs.lemmas.List.{length-set}
use Rattle.std.proofs.lemmas.List.Folds.{find-set, find_past}
use Rattle.std.proofs.lemmas.Option.{get_or_from_slice_get}
use Rattle.rail_model.specs.declared.tables.Tables.{Tables}
use Rattle.rail_model.specs.Name.{is_same, NamesRise}
use Rattle.rail_model.specs.Tables.{number_of}
use Rattle.rail_model.proofs.NameOrder.{same_name, is_same-from}
use Rattle.plan_model.specs.declared.answer.Answer.{Answer}
use Rattle.plan_model.specs.declared.answer.Done.{Done}
use Rattle.plan_model.specs.declared.journal.Act.TheVariants as act
use Rattle.plan_model.specs.declared.journal.Entry.{Entry}
use Rattle.plan_model.specs.Legal.{IsJournal, IsNext}
use Rattle.plan_model.specs.Journal.{publication_of}
use Rattle.plan_model.proofs.Growing.{last_publication-more}
use Rattle.plan_model.proofs.Legality.{legal_has_one}
use Rattle.plan_model.proofs.Working.{calls_leave_journals}
use Rattle.plan_book.specs.declared.shelf.Published.{Published}
use Rattle.plan_book.specs.declared.shelf.Shelf.{Shelf}
use Rattle.plan_book.specs.Shelves.{blank, shelf_of, IsPublished, IsShelf, IsPlaceOf, AreShelves}
use Rattle.plan_book.specs.Kept.{IsBook}
use Rattle.plan_book.proofs.Found.{found_at, found_name}
use Rattle.plan_book.proofs.Others.{new_there, shelf-more, shelf-published}
use Rattle.plan_book.proofs.Adding.{done-outside, shelf_found, book-more}

-- shelves of the same names stand in the order of names, too
pub names_rise_too : (xs ys : List Shelf) → length ys ≡ length xs
    → ((k : ℕ) (d : Shelf) → k < length xs → (get_or ys k d).name ≡ (get_or xs k d).name)
    → NamesRise (λ s. s.name) xs → NamesRise (λ s. s.name) ys
names_rise_too xs ys long same rise i j d before below =
    rw (same i d (omega (arith, before, below, long)), same j d (omega (arith, below, long)))
    (rise i j d before (omega (arith, below, long)))

-- the shelf at a place that is set to one of the same name
name_set : (xs : List Shelf) (i : ℕ) (s y : Shelf) → slice_get xs i ≡ Some s → y.name ≡ s.name
    → (k : ℕ) (d : Shelf) → k < length xs → (get_or (slice_set xs i y) k d).name ≡ (get_or xs k d).name
name_set [] i s y at same k d below = absurd (omega (arith, below))
name_set (x ∷ xs) zero s y at same zero d below = let is : x ≡ s = cc in same ∙ ap (λ (z : Shelf). z.name) (sym is)
name_set (x ∷ xs) zero s y at same (suc k) d below = refl
name_set (x ∷ xs) (suc i) s y at same zero d below = refl
name_set (x ∷ xs) (suc i) s y at same (suc k) d below = name_set xs i s y at same k d (omega (arith, below))

module _ (journal : List Entry) (e : Entry) (name : List ℕ) (at : ℕ) (answer : Answer) (is : e.act ≡ act.Published name at answer) where
  abbrev published : Published
  published = record { at = at; entry = length journal }

  says : publication_of name e.act ≡ Some (record { at = at; answer = answer })
  says = rw is (rw (is_same-from name name refl) refl)

  says_no_other : (n : List ℕ) → is_same name n ≡ false → publication_of n e.act ≡ None
  says_no_other n apart = rw is (rw apart refl)

  is_published : IsPublished (journal ++ e ∷ []) name published
  is_published = record {
    answer = answer;
    last = last_publication-more journal (e ∷ []) name ∙ rw says refl;
    there = new_there journal e ∙ rw is refl;
  }

  module _ (first place : ℕ) (shelves : List Shelf) (s : Shelf) (some : 0 < length journal) (are : AreShelves journal first shelves) (there : IsPlaceOf shelves name place) (at_place : slice_get shelves place ≡ Some s) where
    found : find (λ x. is_same x.name name) shelves ≡ Some s
    found = found_at shelves name place s there.number at_place

    named : s.name ≡ name
    named = found_name shelves name s found

    abbrev with_published : Shelf
    with_published = record s { published = Some published }

    abbrev later : List Shelf
    later = slice_set shelves place with_published

    each_known : (n : List ℕ) → IsShelf (journal ++ e ∷ []) n (shelf_of first later n)
    each_known n =
        elim (cases_Bool (is_same s.name n)) [
          | inl same ↦
              let is_name : name ≡ n = sym named ∙ same_name s.name n same in
              let now : find (λ x. is_same x.name n) later ≡ Some with_published =
              find-set (λ x. is_same x.name n) shelves place with_published (subst (λ m. place ≡ number_of (λ x. x.name) shelves m) is_name there.number) there.within same in
              subst (IsShelf (journal ++ e ∷ []) n) (ap (λ o. unwrap_or o (blank first n)) (sym now))
              (subst (λ m. IsShelf (journal ++ e ∷ []) m with_published) is_name
              (shelf-published journal e some (rw is refl) name s published is_published (shelf_found journal first shelves name are s found)))
          | inr apart ↦
              let other : is_same name n ≡ false = subst (λ m. is_same m n ≡ false) named apart in
              let old : is_same (get_or shelves place s).name n ≡ false = rw (get_or_from_slice_get shelves place s s at_place) apart in
              let same : find (λ x. is_same x.name n) later ≡ find (λ x. is_same x.name n) shelves =
              find_past (λ x. is_same x.name n) shelves place with_published s old apart in
              subst (IsShelf (journal ++ e ∷ []) n) (ap (λ o. unwrap_or o (blank first n)) (sym same))
              (shelf-more journal e some (rw is refl) n (shelf_of first shelves n) (says_no_other n other) (are.each n))
        ]

    pub shelves-published : AreShelves (journal ++ e ∷ []) first later
    shelves-published = record {
      rise = names_rise_too shelves later (length-set shelves place with_published) (name_set shelves place s with_published at_place refl) are.rise;
      each = each_known;
    }

-- the book after a publication that may be made
pub book-published : (journal : List Entry) (tables : Tables) (first at passes : ℕ) (shelves : List Shelf) (done : List ℕ)
    (who : ℕ) (name : List ℕ) (number : ℕ) (answer : Answer) (place : ℕ) (s : Shelf)
    → IsBook journal tables first at passes shelves done → IsNext journal (record { pass = who; act = act.Published name number answer })
    → IsPlaceOf shelves name place → slice_get shelves place ≡ Some s
    → IsBook (journal ++ record { pass = who; act = act.Published name number answer } ∷ []) tables first at passes
    (slice_set shelves place (record s { published = Some (record { at = number; entry = length journal }) })) done
book-published journal tables first at passes shelves done who name number answer place s held next there at_place =
    let e : Entry = record { pass = who; act = act.Published name number answer } in
    let after = journal ++ e ∷ [] in
    let done_act : Done = record { section = name; at = number; answer = answer } in
    let is_journal : IsJournal after =
    (calls_leave_journals journal after held.is_journal).publish who done_act (Ok tt) (record { next = next; is = refl }) in
    book-more journal tables first at passes shelves done e held is_journal _ done refl refl
    (done-outside journal e done (legal_has_one journal held.is_journal.legal) (λ planner from. refl) held.done_are)
    (shelves-published journal e name number answer refl first place shelves s (legal_has_one journal held.is_journal.legal) held.shelves_are there at_place)
