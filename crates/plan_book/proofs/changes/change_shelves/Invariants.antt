use Rattle.std.proofs.Common.{◌≡◌, ℕ, ◌<◌, ◌≤◌, length, get_or}
use Rattle.plan_book.specs.declared.changes.ShelfChange.{ShelfChange}
use Rattle.plan_book.specs.declared.shelf.Shelf.{Shelf}
use Rattle.plan_book.specs.Changes.{changed}
use Rattle.plan_book.proofs.changes.change_shelves.Given as goal

-- the first shelves are changed, the others and their changes are as they were
abbrev pub invariant-loop-place : goal.invariant-loop-place
invariant-loop-place l = record {
  count : length l.shelves ≡ length l.initial.shelves;
  changes : length l.changes.items ≡ length l.initial.changes.items;
  done : (k : ℕ) (s : Shelf) (c : ShelfChange) → k < l.place
      → get_or l.shelves k s ≡ changed l.number (get_or l.initial.shelves k s) (get_or l.initial.changes.items k c);
  same : (k : ℕ) (s : Shelf) → l.place ≤ k → get_or l.shelves k s ≡ get_or l.initial.shelves k s;
  left : (k : ℕ) (c : ShelfChange) → l.place ≤ k → get_or l.changes.items k c ≡ get_or l.initial.changes.items k c;
}
