use Rattle.std.proofs.Common.{◌≡◌, ℕ, ◌<◌, ◌≤◌, length, get_or}
use Rattle.plan_book.specs.declared.shelf.Shelf.{Shelf}
use Rattle.plan_book.specs.Changes.{IsAlike}
use Rattle.plan_book.proofs.changes.share_cuts.Given as goal

-- the first shelves have the cuts that they had, the others are as they were
abbrev pub invariant-loop-place : goal.invariant-loop-place
invariant-loop-place l = record {
  count : length l.shelves ≡ length l.initial.shelves;
  alike : (k : ℕ) (s : Shelf) → k < l.place → IsAlike (get_or l.initial.shelves k s) (get_or l.shelves k s);
  same : (k : ℕ) (s : Shelf) → l.place ≤ k → get_or l.shelves k s ≡ get_or l.initial.shelves k s;
}
