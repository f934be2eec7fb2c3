-- What a book keeps beside its journal, after an entry that makes no edit.
use Rattle.std.proofs.Common.{eqb, if◌then◌else◌, length-append, ◌≡◌, ℕ, ◌+◌, ◌<◌, ◌≤◌, List, [], ◌∷◌, ◌++◌, length, Option, Some, None, Result, Ok, Err, refl, sym, ap, ◌∙◌, subst, arith}
use Rattle.std.specs.Prelude.{is_some, find, unwrap_or, false, IfSome, MatchResult}
use Rattle.std.specs.List.{cons_option}
use Rattle.std.proofs.lemmas.List.{append-nil}
use Rattle.rail_model.specs.declared.tables.Tables.{Tables}
use Rattle.rail_model.specs.Name.{is_same}
use Rattle.plan_model.specs.declared.answer.Done.{Done}
use Rattle.plan_model.specs.declared.journal.Entry.{Entry}
use Rattle.plan_model.specs.declared.outcome.NotTaken.{NotTaken}
use Rattle.plan_model.specs.declared.outcome.NotTaken.TheVariants as not_taken
use Rattle.plan_model.specs.Journal.{Opening, opening, edit_of, issued, issues, done_by, task_of, last_number, last_publication}
use Rattle.plan_model.specs.Legal.{Stays, cut_at, cut_now, IsCurrent, IsLastTouching, IsJournal, IsAnswerAt, MayBePublished}
use Rattle.plan_model.proofs.Growing.{opening-more, issued-more, done_by-more, others_keep_tables}
use Rattle.plan_model.proofs.Changing.{same_from, stays_within}
use Rattle.plan_model.proofs.Legality.{legal_has_one}
use Rattle.plan_model.specs.Outcome.{IsNotTaken}
use Rattle.plan_book.specs.declared.shelf.Shelf.{Shelf}
use Rattle.plan_book.specs.Shelves.{blank, IsPublished, KnowsLast, IsShelf, IsVerdict, AreShelves}
use Rattle.plan_model.specs.declared.scripts.Task.{Task}
use Rattle.plan_book.specs.Kept.{IsBy, IsCounted, AreDone, IsBook, IsQuiet, IsOutside}
use Rattle.plan_book.proofs.Found.{found_name}
use Rattle.plan_book.proofs.Latest.{current_has_latest}
use Rattle.plan_book.proofs.Others.{none, shelves-more}

-- ---- what is found among shelves

module _ (journal : List Entry) (first : ℕ) (shelves : List Shelf) (name : List ℕ) (are : AreShelves journal first shelves) where
  -- what the shelf of a name says is right
  pub shelf_found : (s : Shelf) → find (λ x. is_same x.name name) shelves ≡ Some s → IsShelf journal name s
  shelf_found s found = subst (IsShelf journal name) (ap (λ o. unwrap_or o (blank first name)) found) (are.each name)

  pub shelf_found_named : (s : Shelf) → find (λ x. is_same x.name name) shelves ≡ Some s → IsShelf journal s.name s
  shelf_found_named s found = subst (λ n. IsShelf journal n s) (sym (found_name shelves name s found)) (shelf_found s found)

  pub none_found : find (λ x. is_same x.name name) shelves ≡ None → IsShelf journal name (blank first name)
  none_found found = subst (IsShelf journal name) (ap (λ o. unwrap_or o (blank first name)) found) (are.each name)

  -- a section whose answer was worked out has a shelf
  pub done_found : (done : Done) → first ≡ (opening journal).at → done.section ≡ name → IsAnswerAt journal done.section done.at done.answer
      → find (λ x. is_same x.name name) shelves ≡ None → ⊥
  done_found done first_is same is found =
      let known = none_found found in
      let there : cut_at journal name done.at ≡ Some is.cut = subst (λ n. cut_at journal n done.at ≡ Some is.cut) same is.there in
      let from : first ≤ done.at = omega (arith, first_is, is.from_opening) in
      let now : cut_now journal name ≡ cut_at journal name done.at =
      same_from (cut_at journal name) done.at (last_number journal) is.to_last
      (stays_within (cut_at journal name) first (last_number journal) done.at (last_number journal) known.touched.stays from (omega arith)) in
      let both : Some is.cut ≡ None = sym there ∙ sym now ∙ known.cut.value in
      absurd (cc)

module _ (journal : List Entry) (s : Shelf) (done : Done) (is_journal : IsJournal journal) (known : IsShelf journal done.section s) (is : IsAnswerAt journal done.section done.at done.answer) where
  untouched_from : (at : ℕ) → s.touched ≤ at → Stays (cut_at journal done.section) at (last_number journal)
  untouched_from at from =
      stays_within (cut_at journal done.section) s.touched (last_number journal) at (last_number journal) known.touched.stays from (omega arith)

  -- a section whose last publication is before the last edit that touched it is not current
  not_current : IfSome s.published (λ p. p.at < s.touched) → IsCurrent journal done.section → ⊥
  not_current before current =
      let latest = current_has_latest journal done.section s is_journal known current in
      let early : latest.last.at < s.touched = subst (λ o. IfSome o (λ p. p.at < s.touched)) latest.published before in
      omega (arith, early, latest.since)

  -- what a shelf says of an answer is right
  pub verdict_is : (r : Result (Unit {0}) NotTaken) → IsVerdict s done.at r
      → MatchResult r (λ u. MayBePublished journal done.section done.at done.answer) (IsNotTaken journal done)
  verdict_is (Ok u) h = record {
    done = is;
    untouched = untouched_from done.at h.0;
    wanted = not_current h.1;
  }
  verdict_is (Err (not_taken.Stale by)) h =
      record { last = subst (IsLastTouching journal done.section) (sym h.0) known.touched; later = h.1 }
  verdict_is (Err (not_taken.Current at)) h =
      let last : IsPublished journal done.section h.2.0 = subst (KnowsLast journal done.section) h.2.1 known.published in (
        untouched_from done.at h.0,
        record {
          published = (last.answer, subst (λ n. last_publication journal done.section ≡ Some (record { at = n; answer = last.answer })) h.2.2 last.last);
          untouched = untouched_from at h.1;
        },
      )

-- ---- tasks that are done

one_task : (e : Entry) (planner : ℕ) → done_by (e ∷ []) planner ≡ cons_option (task_of planner e.act) []
unfolding done_by
one_task e planner = refl

pub done-outside : (journal : List Entry) (e : Entry) (done : List ℕ) → 0 < length journal → IsOutside e.act
    → AreDone journal done → AreDone (journal ++ e ∷ []) done
done-outside journal e done some outside h = record {
  count = h.count ∙ ap (λ (o : Opening). length o.scripts) (sym (opening-more journal (e ∷ []) some));
  each = λ k l.
      let none : done_by (e ∷ []) (k + 1) ≡ [] = one_task e (k + 1) ∙ rw (outside (k + 1) (omega arith)) refl in
      h.each k l
      ∙ ap length (sym (done_by-more journal (e ∷ []) (k + 1) ∙ rw none (append-nil (done_by journal (k + 1)))));
}

option_count : (o : Option Task) → length (cons_option o []) ≡ (if is_some o then 1 else 0)
option_count None = refl
option_count (Some t) = refl

pub done-by : (journal : List Entry) (e : Entry) (planner : ℕ) (done later : List ℕ) → 0 < length journal → IsBy planner e.act
    → AreDone journal done → IsCounted planner done later → AreDone (journal ++ e ∷ []) later
done-by journal e planner done later some by h counted = record {
  count = counted.count ∙ h.count ∙ ap (λ (o : Opening). length o.scripts) (sym (opening-more journal (e ∷ []) some));
  each = λ k l.
      let within : k < length done = omega (arith, l, counted.count) in
      let one : length (done_by (e ∷ []) (k + 1)) ≡ (if eqb planner (k + 1) then 1 else 0) =
      ap length (one_task e (k + 1)) ∙ option_count (task_of (k + 1) e.act) ∙ ap (λ b. if b then 1 else 0) (by (k + 1) (omega arith)) in
      let whole = ap length (done_by-more journal (e ∷ []) (k + 1)) ∙ length-append (done_by journal (k + 1)) (done_by (e ∷ []) (k + 1)) in
      omega (arith, counted.each k within, h.each k within, one, whole);
}

-- ---- passes

one_pass : (e : Entry) → issues e.act ≡ false → issued (e ∷ []) ≡ 1
unfolding issued
one_pass e none = rw none refl

pub issued-same : (journal : List Entry) (e : Entry) → issues e.act ≡ false → issued (journal ++ e ∷ []) ≡ issued journal
issued-same journal e none = omega (arith, issued-more journal (e ∷ []), one_pass e none)

-- ---- the book

module _ (journal : List Entry) (tables : Tables) (first at passes : ℕ) (shelves : List Shelf) (done : List ℕ) (e : Entry) (held : IsBook journal tables first at passes shelves done) (is_journal : IsJournal (journal ++ e ∷ [])) where
  some : 0 < length journal
  some = legal_has_one journal held.is_journal.legal

  -- after an entry that makes no edit and issues no pass
  pub book-more : (later : List Shelf) (counts : List ℕ) → edit_of e.act ≡ None → issues e.act ≡ false
      → AreDone (journal ++ e ∷ []) counts → AreShelves (journal ++ e ∷ []) first later
      → IsBook (journal ++ e ∷ []) tables first at passes later counts
  book-more later counts no_edit no_pass tasks are =
      let keeps = others_keep_tables journal (e ∷ []) some (none journal e some no_edit) in
      record {
        is_journal = is_journal;
        within = rw (opening-more journal (e ∷ []) some) held.within;
        tables_are = held.tables_are ∙ sym keeps.tables;
        first_is = held.first_is ∙ ap (λ (o : Opening). o.at) (sym (opening-more journal (e ∷ []) some));
        at_is = held.at_is ∙ sym keeps.number;
        passes_are = held.passes_are ∙ sym (issued-same journal e no_pass);
        shelves_are = are;
        done_are = tasks;
      }

  -- and publishes nothing
  pub book-quiet : (planner : ℕ) (counts : List ℕ) → IsQuiet e.act → IsBy planner e.act → IsCounted planner done counts
      → IsBook (journal ++ e ∷ []) tables first at passes shelves counts
  book-quiet planner counts quiet by counted =
      book-more shelves counts quiet.no_edit quiet.no_pass (done-by journal e planner done counts some by held.done_are counted)
      (shelves-more journal e some quiet.no_edit first shelves quiet.no_publication held.shelves_are)
