-- What a book keeps beside its journal, after an edit.
use Rattle.std.proofs.Common.{◌≡◌, ℕ, suc, ◌+◌, ◌<◌, ◌≤◌, eqb, List, [], ◌∷◌, ◌++◌, length, get_or, Option, Some, None, Ok, refl, sym, ap, ◌∙◌, subst, inl, inr, arith}
use Rattle.std.specs.Prelude.{◌⊎◌, find, unwrap_or, option_map, All, IfSome, true, false}
use Rattle.std.specs.List.{cons_option}
use Rattle.std.proofs.lemmas.Bool.{cases_Bool}
use Rattle.rail_model.specs.declared.items.Section.{Section}
use Rattle.rail_model.specs.declared.edit.Edit.{Edit}
use Rattle.rail_model.specs.declared.tables.Tables.{Tables}
use Rattle.rail_model.specs.Name.{is_same, NamesRise}
use Rattle.rail_model.specs.Rules.{is_named, after}
use Rattle.rail_model.proofs.NameOrder.{same_name}
use Rattle.plan_model.specs.declared.journal.Entry.{Entry}
use Rattle.plan_model.specs.Cut.{stamped, section_cut, cut_of}
use Rattle.plan_model.specs.Journal.{Opening, opening, edit_of, edits, last_number, tables_of, issues, publication_of}
use Rattle.plan_model.specs.declared.scripts.Task.TheVariants as task
use Rattle.plan_model.specs.declared.journal.Act.TheVariants as act
use Rattle.plan_model.specs.Legal.{IsNext, IsJournal, cut_at, cut_now, IsLastTouching}
use Rattle.plan_model.proofs.Growing.{opening-more, tables_at-past}
use Rattle.plan_model.proofs.Legality.{legal_has_one}
use Rattle.plan_book.specs.declared.changes.ShelfChange.{ShelfChange}
use Rattle.plan_book.specs.declared.changes.ShelfChange.TheVariants as change
use Rattle.section_cut.specs.Change.{IsChange}
use Rattle.section_cut.proofs.Rows.{found_at}
use Rattle.plan_book.specs.declared.shelf.Shelf.{Shelf}
use Rattle.plan_book.specs.Shelves.{blank, kept_cut, shelf_of, IsShelf, IsKeptCut, KnowsLast, AreShelves}
use Rattle.plan_book.specs.Changes.{IsAlike, WillChange, HaveCuts, changed, AreChanges, AreChanged, Widens, HaveAll, HasCutOf, HoldsOfEach, IsReady, cut_change_of}
use Rattle.plan_book.specs.Kept.{MayDo, IsCounted, IsBook, AreDone}
use Rattle.plan_book.proofs.Found.{found_name}
use Rattle.plan_book.proofs.Starting.{found_of_all}
use Rattle.plan_book.proofs.Publications.{names_rise_too}
use Rattle.plan_book.proofs.NextTasks.{some_if, journal_edited}
use Rattle.plan_book.proofs.Adding.{shelf_found, none_found, done-by, issued-same}
use Rattle.plan_book.proofs.Editing.{last_number-edited, tables_of-edited, cut_then, shelf-edited}

changed_name : (number : ℕ) (s : Shelf) (c : ShelfChange) → (changed number s c).name ≡ s.name
changed_name number s change.Untouched = refl
changed_name number s (change.Touched cut) = refl
changed_name number s (change.Row place row) = refl
changed_name number s (change.Inserted place row spare) = refl
changed_name number s (change.Removed place) = refl

-- the shelf of a name stands at one place of shelves and of others with the same names
pub found_beside : (xs ys : List Shelf) (name : List ℕ) (d : Shelf) → length ys ≡ length xs
    → ((k : ℕ) → k < length xs → (get_or ys k d).name ≡ (get_or xs k d).name)
    → ((k : ℕ) × (k < length xs) × (find (λ s. is_same s.name name) xs ≡ Some (get_or xs k d)) × (find (λ s. is_same s.name name) ys ≡ Some (get_or ys k d)))
    ⊎ ((find (λ s. is_same s.name name) xs ≡ None) × (find (λ s. is_same s.name name) ys ≡ None))
found_beside [] [] name d long same = inr (refl, refl)
found_beside [] (y ∷ ys) name d long same = absurd (omega (arith, long))
found_beside (x ∷ xs) [] name d long same = absurd (omega (arith, long))
found_beside (x ∷ xs) (y ∷ ys) name d long same =
    let first : y.name ≡ x.name = same 0 (omega arith) in
    elim (cases_Bool (is_same x.name name)) [
      | inl e ↦
          let too : is_same y.name name ≡ true = ap (λ n. is_same n name) first ∙ e in
          inl (0, omega arith, rw e refl, rw too refl)
      | inr e ↦
          let too : is_same y.name name ≡ false = ap (λ n. is_same n name) first ∙ e in
          elim (found_beside xs ys name d (omega (arith, long)) (λ k l. same (suc k) (omega (arith, l)))) [
            | inl there ↦ inl (suc there.0, omega (arith, there.1), rw e there.2, rw too there.3)
            | inr none ↦ inr (rw e none.0, rw too none.1)
          ]
    ]

section_name : (sections : List Section) (name : List ℕ) (x : Section) → find (λ s. is_same s.name name) sections ≡ Some x → x.name ≡ name
section_name [] name x h = absurd (cc)
section_name (s ∷ sections) name x h =
    elim (cases_Bool (is_same s.name name)) [
      | inl e ↦
          let it : Some s ≡ Some x = sym (rw e refl) ∙ h in
          let is : s ≡ x = cc in ap (λ (s : Section). s.name) (sym is) ∙ same_name s.name name e
      | inr e ↦ section_name sections name x (sym (rw e refl) ∙ h)
    ]

unnamed : (shelves : List Shelf) (name : List ℕ) → find (λ s. is_same s.name name) shelves ≡ None → is_named (λ (s : Shelf). s.name) shelves name ≡ false
unnamed [] name h = refl
unnamed (s ∷ shelves) name h =
    elim (cases_Bool (is_same s.name name)) [
      | inl e ↦ let it : Some s ≡ None = sym (rw e refl) ∙ h in absurd (cc)
      | inr e ↦ rw e (unnamed shelves name (sym (rw e refl) ∙ h))
    ]

-- a section of a name that has no shelf is not there, where each section has one
no_cut_by : (tables : Tables) (shelves : List Shelf) (name : List ℕ) (o : Option Section)
    → IfSome o (λ x. is_named (λ (s : Shelf). s.name) shelves x.name ≡ true) → find (λ s. is_same s.name name) tables.sections ≡ o
    → is_named (λ (s : Shelf). s.name) shelves name ≡ false → option_map (section_cut tables) o ≡ None
no_cut_by tables shelves name None has found out = refl
no_cut_by tables shelves name (Some x) has found out =
    let both : true ≡ false =
    sym (subst (λ n. is_named (λ (s : Shelf). s.name) shelves n ≡ true) (section_name tables.sections name x found) has) ∙ out in
    absurd (cc)

no_cut : (tables : Tables) (shelves : List Shelf) (name : List ℕ) → HaveAll tables shelves
    → find (λ s. is_same s.name name) shelves ≡ None → cut_of tables name ≡ None
no_cut tables shelves name all none =
    no_cut_by tables shelves name (find (λ s. is_same s.name name) tables.sections)
    (found_of_all (λ (x : Section). is_named (λ (s : Shelf). s.name) shelves x.name ≡ true) (λ s. is_same s.name name) tables.sections all)
    refl (unnamed shelves name none)

module _ (journal : List Entry) (e : Entry) (edit : Edit) (some : 0 < length journal) (is : edit_of e.act ≡ Some edit) (quiet : (name : List ℕ) → publication_of name e.act ≡ None) (order : (opening journal).at ≤ last_number journal) (first : ℕ) (shelves later : List Shelf) (changes : List ShelfChange) (are : AreShelves journal first shelves) (all : HaveAll (after (tables_of journal) edit) shelves) (made : AreChanges (tables_of journal) (after (tables_of journal) edit) (last_number journal + 1) shelves changes) (ready : HoldsOfEach IsReady shelves changes) (new : AreChanged (last_number journal + 1) shelves changes later) where
  names : (k : ℕ) (d : Shelf) → k < length shelves → (get_or later k d).name ≡ (get_or shelves k d).name
  names k d below =
      ap (λ (s : Shelf). s.name) (new.each k d change.Untouched below)
      ∙ changed_name (last_number journal + 1) (get_or shelves k d) (get_or changes k change.Untouched)

  each_known : (name : List ℕ) → IsShelf (journal ++ e ∷ []) name (shelf_of first later name)
  each_known name =
      let none = blank first name in
      elim (found_beside shelves later name none new.count (λ k below. names k none below)) [
        | inl there ↦
            let k = there.0 in
            let s = get_or shelves k none in
            let c = get_or changes k change.Untouched in
            let named : s.name ≡ name = found_name shelves name s there.2 in
            let made_here =
            subst (λ n. IsChange (cut_of (tables_of journal) n) (cut_of (after (tables_of journal) edit) n) (last_number journal + 1) (kept_cut s) (cut_change_of c)) named
            (made.each k none change.Untouched there.1).change in
            let is_changed : shelf_of first later name ≡ changed (last_number journal + 1) s c =
            ap (λ o. unwrap_or o none) there.3 ∙ new.each k none change.Untouched there.1 in
            subst (IsShelf (journal ++ e ∷ []) name) (sym is_changed)
            (shelf-edited journal e edit some is name s order (quiet name) (shelf_found journal first shelves name are s there.2) c made_here
            (ready k none change.Untouched there.1))
        | inr missing ↦
            let known = none_found journal first shelves name are missing.0 in
            let before : cut_of (tables_of journal) name ≡ None = sym (cut_then journal e edit some is name) ∙ known.cut.value in
            let same : cut_of (after (tables_of journal) edit) name ≡ cut_of (tables_of journal) name =
            no_cut (after (tables_of journal) edit) shelves name all missing.0 ∙ sym before in
            subst (IsShelf (journal ++ e ∷ []) name) (sym (ap (λ o. unwrap_or o none) missing.1))
            (shelf-edited journal e edit some is name none order (quiet name) known change.Untouched same tt)
      ]

  pub shelves-edited : AreShelves (journal ++ e ∷ []) first later
  shelves-edited = record { rise = names_rise_too shelves later new.count names are.rise; each = each_known }

pub shelf_alike : (journal : List Entry) (name : List ℕ) (old new : Shelf) → IsAlike old new → IsShelf journal name old → IsShelf journal name new
shelf_alike journal name old new same h = record {
  touched = subst (IsLastTouching journal name) (sym same.touched) h.touched;
  published = subst (KnowsLast journal name) (sym same.published) h.published;
  cut = subst (IsKeptCut journal name) (sym same.cut) h.cut;
}

-- shelves of more names serve as well
pub shelves-wider : (journal : List Entry) (first : ℕ) (old new : List Shelf) → AreShelves journal first old → Widens first old new → AreShelves journal first new
shelves-wider journal first old new are wider = record {
  rise = wider.rise;
  each = λ name. shelf_alike journal name (shelf_of first old name) (shelf_of first new name) (wider.known name) (are.each name);
}

pub book-wider : (journal : List Entry) (tables : Tables) (first at passes : ℕ) (old new : List Shelf) (done : List ℕ)
    → IsBook journal tables first at passes old done → Widens first old new → IsBook journal tables first at passes new done
book-wider journal tables first at passes old new done held wider =
    record {
      is_journal = held.is_journal;
      within = held.within;
      tables_are = held.tables_are;
      first_is = held.first_is;
      at_is = held.at_is;
      passes_are = held.passes_are;
      shelves_are = shelves-wider journal first old new held.shelves_are wider;
      done_are = held.done_are;
    }

pub now_is : (journal : List Entry) (name : List ℕ) → cut_now journal name ≡ cut_of (tables_of journal) name
unfolding cut_at
now_is journal name = rw (tables_at-past journal (last_number journal) (omega arith)) refl

-- what is known of each name has its section's cut
pub have_cuts : (journal : List Entry) (first : ℕ) (shelves : List Shelf) → AreShelves journal first shelves
    → HaveCuts (tables_of journal) first shelves
have_cuts journal first shelves are name = sym (now_is journal name) ∙ (are.each name).cut.value

-- and so has each shelf
pub each_has_cut : (tables : Tables) (first : ℕ) (shelves : List Shelf) → NamesRise (λ s. s.name) shelves → HaveCuts tables first shelves
    → All (HasCutOf tables) shelves
each_has_cut tables first shelves rise cuts k d l =
    let s = get_or shelves k d in
    cuts s.name
    ∙ ap (λ (o : Option Shelf). option_map (stamped 0) (kept_cut (unwrap_or o (blank first s.name))))
    (found_at (λ (s : Shelf). s.name) shelves k d rise l)

pub cuts_wider : (tables : Tables) (first : ℕ) (old new : List Shelf) → Widens first old new → HaveCuts tables first old → HaveCuts tables first new
cuts_wider tables first old new wider cuts name =
    cuts name ∙ ap (option_map (stamped 0)) (sym (wider.known name).cut)

edit_count : (o : Option Edit) (rest : List Edit) → length (cons_option o rest) ≤ 1 + length rest
edit_count None rest = omega arith
edit_count (Some x) rest = omega arith

few_edits : (journal : List Entry) → length (edits journal) ≤ length journal
few_edits [] = omega arith
few_edits (e ∷ journal) = omega (arith, edit_count (edit_of e.act) (edits journal), few_edits journal)

-- no more edits than entries
pub last_number_within : (journal : List Entry) → last_number journal ≤ (opening journal).at + length journal
unfolding last_number
last_number_within journal = omega (arith, few_edits journal)

-- the last edit's number is the opening's at least
from_opening : (journal : List Entry) → (opening journal).at ≤ last_number journal
unfolding last_number
from_opening journal = omega arith

-- the book after an edit
pub book-edited : (journal : List Entry) (tables : Tables) (first at passes : ℕ) (shelves later : List Shelf) (changes : List ShelfChange) (done counts : List ℕ)
    (e : Entry) (edit : Edit) → IsBook journal tables first at passes shelves done → IsJournal (journal ++ e ∷ [])
    → edit_of e.act ≡ Some edit → ((name : List ℕ) → publication_of name e.act ≡ None) → issues e.act ≡ false → AreDone (journal ++ e ∷ []) counts
    → HaveAll (after tables edit) shelves → AreChanges tables (after tables edit) (at + 1) shelves changes
    → HoldsOfEach IsReady shelves changes → AreChanged (at + 1) shelves changes later
    → IsBook (journal ++ e ∷ []) (after tables edit) first (at + 1) passes later counts
book-edited journal tables first at passes shelves later changes done counts e edit held is_journal is quiet no_pass tasks all made ready new =
    let some = legal_has_one journal held.is_journal.legal in
    record {
      is_journal = is_journal;
      within = rw (opening-more journal (e ∷ []) some) held.within;
      tables_are = rw (tables_of-edited journal e edit some is, held.tables_are) refl;
      first_is = held.first_is ∙ ap (λ (o : Opening). o.at) (sym (opening-more journal (e ∷ []) some));
      at_is = rw (last_number-edited journal e edit some is, held.at_is) refl;
      passes_are = held.passes_are ∙ sym (issued-same journal e no_pass);
      shelves_are =
          shelves-edited journal e edit some is quiet (from_opening journal) first shelves later changes held.shelves_are
          (rw (← held.tables_are) all) (rw (← held.tables_are, ← held.at_is) made) ready (rw (← held.at_is) new);
      done_are = tasks;
    }

-- the book after an edit by a planner, or outside the scripts, that no rule refuses
pub book-accepted : (journal : List Entry) (tables : Tables) (first at passes : ℕ) (shelves later : List Shelf) (changes : List ShelfChange)
    (done counts : List ℕ) (who planner : ℕ) (edit : Edit) (number : ℕ) (next : Tables) → IsBook journal tables first at passes shelves done
    → IsNext journal (record { pass = who; act = act.Edited planner number edit }) → MayDo journal planner (task.Edit edit)
    → number ≡ at + 1 → next ≡ after tables edit
    → WillChange tables next number shelves changes → AreChanged number shelves changes later → IsCounted planner done counts
    → IsBook (journal ++ record { pass = who; act = act.Edited planner number edit } ∷ []) next first number passes later counts
book-accepted journal tables first at passes shelves later changes done counts who planner edit number next held may may_do number_is next_is will new counted =
    let e : Entry = record { pass = who; act = act.Edited planner number edit } in
    let longer = journal ++ e ∷ [] in
    let is_journal : IsJournal longer =
    journal_edited who planner edit (Ok number) journal longer held.is_journal may_do (record { next = may; is = refl }) in
    let tasks = done-by journal e planner done counts (legal_has_one journal held.is_journal.legal) (λ p from. some_if (eqb planner p) (task.Edit edit)) held.done_are counted in
    let made = subst (λ n. AreChanges tables (after tables edit) n shelves changes) number_is
    (subst (λ t. AreChanges tables t number shelves changes) next_is will.made) in
    subst (λ n. IsBook longer next first n passes later counts) (sym number_is)
    (subst (λ t. IsBook longer t first (at + 1) passes later counts) (sym next_is)
    (book-edited journal tables first at passes shelves later changes done counts e edit held is_journal refl (λ name. refl) refl tasks
    (subst (λ t. HaveAll t shelves) next_is will.all) made will.ready (subst (λ n. AreChanged n shelves changes later) number_is new)))
