-- What an entry that makes no edit leaves of what is known of sections.
use Rattle.std.proofs.Common.{◌≡◌, ℕ, zero, suc, ◌<◌, List, [], ◌∷◌, ◌++◌, length, get_or, Option, Some, None, refl, ◌∙◌}
use Rattle.std.specs.Prelude.{IfSome, All}
use Rattle.plan_model.specs.declared.answer.Answer.{Answer}
use Rattle.plan_model.specs.declared.cut.CutRow.{CutRow}
use Rattle.plan_model.specs.declared.cut.Cut.{Cut}
use Rattle.plan_model.specs.declared.journal.Entry.{Entry}
use Rattle.plan_model.specs.Journal.{opening, edit_of, edits, last_number, publication_of}
use Rattle.plan_model.specs.Legal.{cut_at, row_at, IsLastTouching, IsStamp}
use Rattle.plan_model.proofs.Growing.{opening-more, last_publication-more, others_keep_tables}
use Rattle.plan_book.specs.declared.shelf.Published.{Published}
use Rattle.plan_book.specs.declared.shelf.Shelf.{Shelf}
use Rattle.plan_book.specs.Shelves.{kept_cut, answer_of, answer_at, IsPublished, KnowsLast, IsKeptCut, IsShelf, shelf_of, AreShelves}
use Rattle.plan_book.proofs.LastChanges.{last_change_too}

-- what an entry publishes stays in its place in a longer journal
pub still_there : (xs ys : List Entry) (k : ℕ) (a : Answer) → answer_at xs k ≡ Some a → answer_at (xs ++ ys) k ≡ Some a
still_there [] ys k a h = absurd (cc)
still_there (e ∷ xs) ys zero a h = h
still_there (e ∷ xs) ys (suc k) a h = still_there xs ys k a h

-- what the entry that was added publishes
pub new_there : (xs : List Entry) (e : Entry) → answer_at (xs ++ e ∷ []) (length xs) ≡ answer_of e.act
new_there [] e = refl
new_there (y ∷ xs) e = new_there xs e

module _ (journal : List Entry) (e : Entry) (some : 0 < length journal) where
  -- a publication that is known stays known, by an entry that publishes nothing of the section
  pub knows_last-more : (name : List ℕ) (p : Option Published) → publication_of name e.act ≡ None
      → KnowsLast journal name p → KnowsLast (journal ++ e ∷ []) name p
  knows_last-more name None quiet h = last_publication-more journal (e ∷ []) name ∙ rw quiet h
  knows_last-more name (Some p) quiet h = record {
    answer = h.answer;
    last = last_publication-more journal (e ∷ []) name ∙ rw quiet h.last;
    there = still_there journal (e ∷ []) p.entry h.answer h.there;
  }

  module _ (no_edit : edit_of e.act ≡ None) where
    pub none : edits (e ∷ []) ≡ []
    none = rw no_edit refl

    touched-more : (name : List ℕ) (by : ℕ) → IsLastTouching journal name by → IsLastTouching (journal ++ e ∷ []) name by
    touched-more name by h =
        let keeps = others_keep_tables journal (e ∷ []) some none in
        rw (opening-more journal (e ∷ []) some, keeps.number)
        (last_change_too (cut_at journal name) (cut_at (journal ++ e ∷ []) name) (opening journal).at (last_number journal) by (λ k below. keeps.cuts name k) h)

    row_at-others : (name run : List ℕ) (k : ℕ) → row_at (journal ++ e ∷ []) name run k ≡ row_at journal name run k
    unfolding row_at
    row_at-others name run k = rw ((others_keep_tables journal (e ∷ []) some none).cuts name k) refl

    stamp-more : (name : List ℕ) (row : CutRow) → IsStamp journal name row → IsStamp (journal ++ e ∷ []) name row
    stamp-more name row h =
        let keeps = others_keep_tables journal (e ∷ []) some none in
        rw (opening-more journal (e ∷ []) some, keeps.number)
        (last_change_too (row_at journal name row.name) (row_at (journal ++ e ∷ []) name row.name) (opening journal).at (last_number journal) row.stamp (λ k below. row_at-others name row.name k) h)

    stamps-more : (name : List ℕ) (cut : Option Cut) → IfSome cut (λ c. All (IsStamp journal name) c.rows)
        → IfSome cut (λ c. All (IsStamp (journal ++ e ∷ []) name) c.rows)
    stamps-more name None h = tt
    stamps-more name (Some c) h = λ k d l. stamp-more name (get_or c.rows k d) (h k d l)

    cut-more : (name : List ℕ) (cut : Option Cut) → IsKeptCut journal name cut → IsKeptCut (journal ++ e ∷ []) name cut
    cut-more name cut h =
        let keeps = others_keep_tables journal (e ∷ []) some none in
        record {
          value = rw keeps.number (keeps.cuts name (last_number journal) ∙ h.value);
          stamps = stamps-more name cut h.stamps;
          sound = h.sound;
        }

    -- what is known of a section stays, by an entry that publishes nothing of it
    pub shelf-more : (name : List ℕ) (s : Shelf) → publication_of name e.act ≡ None
        → IsShelf journal name s → IsShelf (journal ++ e ∷ []) name s
    shelf-more name s quiet h = record {
      touched = touched-more name s.touched h.touched;
      published = knows_last-more name s.published quiet h.published;
      cut = cut-more name (kept_cut s) h.cut;
    }

    -- and what is known of all, by an entry that publishes nothing
    pub shelves-more : (first : ℕ) (shelves : List Shelf) → ((name : List ℕ) → publication_of name e.act ≡ None)
        → AreShelves journal first shelves → AreShelves (journal ++ e ∷ []) first shelves
    shelves-more first shelves quiet h = record {
      rise = h.rise;
      each = λ name. shelf-more name (shelf_of first shelves name) (quiet name) (h.each name);
    }

    -- of a section whose publication it is, the publication is known, and the rest stays
    pub shelf-published : (name : List ℕ) (s : Shelf) (p : Published) → IsPublished (journal ++ e ∷ []) name p
        → IsShelf journal name s → IsShelf (journal ++ e ∷ []) name (record s { published = Some p })
    shelf-published name s p is h = record {
      touched = touched-more name s.touched h.touched;
      published = is;
      cut = cut-more name (kept_cut s) h.cut;
    }
