-- What a book knows of sections after an edit.
use Rattle.std.proofs.Common.{◌≡◌, ℕ, ◌+◌, ◌<◌, ◌≤◌, List, [], ◌∷◌, ◌++◌, length, get_or, Option, Some, None, refl, sym, ap, ◌∙◌, subst, inl, inr, arith}
use Rattle.std.specs.Prelude.{◌≢◌, option_map, All, IfSome}
use Rattle.rail_model.specs.declared.edit.Edit.{Edit}
use Rattle.rail_model.specs.Name.{is_same}
use Rattle.rail_model.specs.Rules.{after}
use Rattle.rail_model.proofs.Lists.{find-map}
use Rattle.plan_model.specs.declared.cut.CutRow.{CutRow}
use Rattle.plan_model.specs.declared.cut.Cut.{Cut}
use Rattle.plan_model.specs.declared.journal.Entry.{Entry}
use Rattle.plan_model.specs.Cut.{stamped_row, stamped, IsSoundCut, cut_of}
use Rattle.plan_model.specs.Journal.{opening, edit_of, edits, last_number, tables_of, publication_of}
use Rattle.plan_model.specs.Legal.{row_named, cut_at, row_at, IsLastTouching, IsStamp}
use Rattle.plan_model.proofs.Growing.{opening-more, last_number-more, tables_of-more, tables_at-past, cut_at-more, row_at-more}
use Rattle.plan_book.specs.declared.changes.ShelfChange.{ShelfChange}
use Rattle.plan_book.specs.declared.changes.ShelfChange.TheVariants as change
use Rattle.section_cut.specs.Change.{IsRestamped, IsCutAfter, IsChange}
use Rattle.section_cut.proofs.Rows.{found_at}
use Rattle.plan_book.specs.declared.shelf.Shelf.{Shelf}
use Rattle.plan_book.specs.Stored.{cut_in, IsOwnAnd, TakesRow}
use Rattle.plan_book.specs.Shelves.{kept_cut, IsShelf, IsKeptCut}
use Rattle.section_cut.specs.Change.{HasPlace, with_row, with_inserted, with_removed}
use Rattle.plan_book.specs.Changes.{changed, with_own, cut_change_of, IsReady}
use Rattle.plan_book.proofs.LastChanges.{last_change_too, last_change_on, last_change_new}
use Rattle.plan_book.proofs.Others.{knows_last-more}
use Rattle.plan_book.proofs.Starting.{found_of_all}
use Rattle.plan_book.proofs.Own.{own_kept}

-- the row of a run in a cut without stamps
row_bare : (run : List ℕ) (cut : Option Cut) → row_named run (option_map (stamped 0) cut) ≡ option_map (stamped_row 0) (row_named run cut)
row_bare run None = refl
row_bare run (Some c) = find-map (stamped_row 0) (λ r. is_same r.name run) c.rows

-- a row of a cut is the one of its name
row_there : (cut : Cut) (k : ℕ) (d : CutRow) → IsSoundCut cut → k < length cut.rows
    → row_named (get_or cut.rows k d).name (Some (stamped 0 cut)) ≡ Some (stamped_row 0 (get_or cut.rows k d))
row_there cut k d sound below =
    row_bare (get_or cut.rows k d).name (Some cut)
    ∙ ap (option_map (stamped_row 0)) (found_at (λ (r : CutRow). r.name) cut.rows k d sound.names_rise below)

module _ (journal : List Entry) (e : Entry) (edit : Edit) (some : 0 < length journal) (is : edit_of e.act ≡ Some edit) where
  abbrev longer : List Entry
  longer = journal ++ e ∷ []

  one_edit : edits (e ∷ []) ≡ edit ∷ []
  one_edit = rw is refl

  pub last_number-edited : last_number longer ≡ last_number journal + 1
  last_number-edited = last_number-more journal (e ∷ []) some ∙ rw one_edit refl

  pub tables_of-edited : tables_of longer ≡ after (tables_of journal) edit
  tables_of-edited = tables_of-more journal (e ∷ []) some ∙ rw one_edit refl

  module _ (name : List ℕ) where
    pub cut_then : cut_at journal name (last_number journal) ≡ cut_of (tables_of journal) name
    unfolding cut_at
    cut_then = rw (tables_at-past journal (last_number journal) (omega arith)) refl

    cut_later : cut_at longer name (last_number journal + 1) ≡ cut_of (after (tables_of journal) edit) name
    unfolding cut_at
    cut_later =
        rw (tables_at-past longer (last_number journal + 1) (omega (arith, last_number-edited)), tables_of-edited) refl

    cut_before : cut_at longer name (last_number journal) ≡ cut_of (tables_of journal) name
    cut_before = cut_at-more journal (e ∷ []) name (last_number journal) some (omega arith) ∙ cut_then

    touched_on : (n : ℕ) → cut_of (after (tables_of journal) edit) name ≡ cut_of (tables_of journal) name
        → IsLastTouching journal name n → IsLastTouching longer name n
    touched_on n same h =
        rw (opening-more journal (e ∷ []) some, last_number-edited)
        (last_change_on (cut_at longer name) (opening journal).at (last_number journal) n (cut_later ∙ same ∙ sym cut_before)
        (last_change_too (cut_at journal name) (cut_at longer name) (opening journal).at (last_number journal) n (λ k below. cut_at-more journal (e ∷ []) name k some below) h))

    touched_new : (opening journal).at ≤ last_number journal → cut_of (after (tables_of journal) edit) name ≢ cut_of (tables_of journal) name
        → IsLastTouching longer name (last_number journal + 1)
    touched_new order differs =
        rw (opening-more journal (e ∷ []) some, last_number-edited)
        (last_change_new (cut_at longer name) (opening journal).at (last_number journal) order (λ same. differs (sym cut_later ∙ same ∙ cut_before)))

    row_later : (run : List ℕ) → row_at longer name run (last_number journal + 1) ≡ row_named run (cut_of (after (tables_of journal) edit) name)
    unfolding row_at
    row_later run = rw cut_later refl

    row_before : (run : List ℕ) → row_at longer name run (last_number journal) ≡ row_named run (cut_of (tables_of journal) name)
    unfolding row_at
    row_before run = rw cut_before refl

    stamp_on : (row : CutRow) → row_named row.name (cut_of (after (tables_of journal) edit) name) ≡ row_named row.name (cut_of (tables_of journal) name)
        → IsStamp journal name row → IsStamp longer name row
    stamp_on row same h =
        rw (opening-more journal (e ∷ []) some, last_number-edited)
        (last_change_on (row_at longer name row.name) (opening journal).at (last_number journal) row.stamp (row_later row.name ∙ same ∙ sym (row_before row.name))
        (last_change_too (row_at journal name row.name) (row_at longer name row.name) (opening journal).at (last_number journal) row.stamp (λ k below. row_at-more journal (e ∷ []) name row.name k some below) h))

    stamp_new : (row : CutRow) → (opening journal).at ≤ last_number journal → row.stamp ≡ last_number journal + 1
        → row_named row.name (cut_of (after (tables_of journal) edit) name) ≢ row_named row.name (cut_of (tables_of journal) name)
        → IsStamp longer name row
    stamp_new row order number differs =
        rw (opening-more journal (e ∷ []) some, last_number-edited, number)
        (last_change_new (row_at longer name row.name) (opening journal).at (last_number journal) order
        (λ same. differs (sym (row_later row.name) ∙ same ∙ row_before row.name)))

    module _ (s : Shelf) (order : (opening journal).at ≤ last_number journal) (no_publication : publication_of name e.act ≡ None) (h : IsShelf journal name s) where
      old_cut : cut_of (tables_of journal) name ≡ option_map (stamped 0) (kept_cut s)
      old_cut = sym cut_then ∙ h.cut.value

      same_stamps : (cut : Option Cut) → cut_of (after (tables_of journal) edit) name ≡ cut_of (tables_of journal) name
          → IfSome cut (λ c. All (IsStamp journal name) c.rows) → IfSome cut (λ c. All (IsStamp longer name) c.rows)
      same_stamps None same stamps = tt
      same_stamps (Some c) same stamps = λ k d l. stamp_on (get_or c.rows k d) (ap (row_named (get_or c.rows k d).name) same) (stamps k d l)

      -- the stamp of a row that stands as before
      old_stamp : (row : CutRow) (cut : Option Cut) → IfSome cut (λ c. All (IsStamp journal name) c.rows) → row_named row.name cut ≡ Some row
          → IsStamp journal name row
      old_stamp row None stamps there = absurd (cc)
      old_stamp row (Some c) stamps there =
          subst (λ o. IfSome o (IsStamp journal name)) there (found_of_all (IsStamp journal name) (λ r. is_same r.name row.name) c.rows stamps)

      restamped : (cut : Cut) → cut_of (after (tables_of journal) edit) name ≡ Some (stamped 0 cut) → IsSoundCut cut
          → All (IsRestamped (last_number journal + 1) (kept_cut s)) cut.rows → All (IsStamp longer name) cut.rows
      restamped cut value sound each k d l =
          let row = get_or cut.rows k d in
          let now : row_named row.name (cut_of (after (tables_of journal) edit) name) ≡ Some (stamped_row 0 row) =
          ap (row_named row.name) value ∙ row_there cut k d sound l in
          let before : row_named row.name (cut_of (tables_of journal) name) ≡ option_map (stamped_row 0) (row_named row.name (kept_cut s)) =
          ap (row_named row.name) old_cut ∙ row_bare row.name (kept_cut s) in
          elim (each k d l) [
            | inl stands ↦
                stamp_on row (now ∙ sym (before ∙ ap (option_map (stamped_row 0)) stands)) (old_stamp row (kept_cut s) h.cut.stamps stands)
            | inr new ↦ stamp_new row order new.0 (λ same. new.1 (sym before ∙ sym same ∙ now))
          ]

      new_stamps : (cut : Option Cut) → IsCutAfter (cut_of (after (tables_of journal) edit) name) (last_number journal + 1) (kept_cut s) cut
          → IfSome cut (λ c. All (IsStamp longer name) c.rows)
      new_stamps None made = tt
      new_stamps (Some c) made = restamped c made.same made.sound made.stamps

      -- what is known of it where a row of the book's own cut changed, came or went
      own-edited : (made : Cut → Cut) (holds : Cut → Type 0) → IfSome s.cut (IsOwnAnd holds)
          → cut_of (after (tables_of journal) edit) name ≢ cut_of (tables_of journal) name
          → IsCutAfter (cut_of (after (tables_of journal) edit) name) (last_number journal + 1) (kept_cut s) (option_map made (kept_cut s))
          → IsShelf longer name (with_own (last_number journal + 1) made s)
      own-edited made holds own differs later = record {
        touched = touched_new order differs;
        published = knows_last-more journal e some name s.published no_publication h.published;
        cut = subst (IsKeptCut longer name) (sym (own_kept made holds s.cut own)) (record {
          value = rw last_number-edited (cut_later ∙ later.same);
          stamps = new_stamps (option_map made (kept_cut s)) later;
          sound = later.sound;
        });
      }

      -- what is known of a section after the edit
      pub shelf-edited : (c : ShelfChange)
          → IsChange (cut_of (tables_of journal) name) (cut_of (after (tables_of journal) edit) name) (last_number journal + 1) (kept_cut s) (cut_change_of c)
          → IsReady s c → IsShelf longer name (changed (last_number journal + 1) s c)
      shelf-edited change.Untouched same ready = record {
        touched = touched_on s.touched same h.touched;
        published = knows_last-more journal e some name s.published no_publication h.published;
        cut = record {
          value = rw last_number-edited (cut_later ∙ same ∙ old_cut);
          stamps = same_stamps (kept_cut s) same h.cut.stamps;
          sound = h.cut.sound;
        };
      }
      shelf-edited (change.Touched cut) made ready = record {
        touched = touched_new order made.0;
        published = knows_last-more journal e some name s.published no_publication h.published;
        cut = record {
          value = rw last_number-edited (cut_later ∙ made.1.same);
          stamps = new_stamps (option_map cut_in cut) made.1;
          sound = made.1.sound;
        };
      }
      shelf-edited (change.Row place row) made ready = own-edited (with_row place row) (HasPlace place) ready made.1 made.2
      shelf-edited (change.Inserted place row spare) made ready = own-edited (with_inserted place row) (TakesRow place spare) ready made.1 made.2
      shelf-edited (change.Removed place) made ready = own-edited (with_removed place) (HasPlace place) ready made.1 made.2
