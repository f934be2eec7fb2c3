use Rattle.std.proofs.Common.{◌≡◌, ℕ, ◌<◌, ◌≤◌, length, get_or}
use Rattle.plan_book.specs.declared.changes.ShelfChange.{ShelfChange}
use Rattle.plan_book.specs.declared.shelf.Shelf.{Shelf}
use Rattle.plan_book.specs.Changes.{IsAlike, IsReady}
use Rattle.plan_book.proofs.changes.make_ready.Given as goal

-- the first shelves are ready, the others as they were
abbrev pub invariant-loop-place : goal.invariant-loop-place
invariant-loop-place l = record {
  count : length l.shelves ≡ length l.initial.shelves;
  alike : (k : ℕ) (s : Shelf) → k < l.place → IsAlike (get_or l.initial.shelves k s) (get_or l.shelves k s);
  ready : (k : ℕ) (s : Shelf) (c : ShelfChange) → k < l.place → IsReady (get_or l.shelves k s) (get_or l.changes k c);
  same : (k : ℕ) (s : Shelf) → l.place ≤ k → get_or l.shelves k s ≡ get_or l.initial.shelves k s;
}
