use Rattle.std.proofs.Common.{◌≡◌, ℕ, ◌<◌, length, get_or}
use Rattle.plan_book.specs.declared.changes.ShelfChange.{ShelfChange}
use Rattle.plan_book.specs.declared.shelf.Shelf.{Shelf}
use Rattle.plan_book.specs.Changes.{IsChangeOf}
use Rattle.plan_book.proofs.changes.each_change.Given as goal

-- the changes of the first shelves
abbrev pub invariant-loop-shelf : goal.invariant-loop-shelf
invariant-loop-shelf l = record {
  count : length l.changes ≡ l.shelf-index;
  each : (k : ℕ) (s : Shelf) (c : ShelfChange) → k < l.shelf-index
      → IsChangeOf l.made.before l.made.after l.number (get_or l.shelves k s) (get_or l.changes k c);
}
