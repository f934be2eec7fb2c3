use Rattle.std.proofs.Common.{◌≡◌, take}
use Rattle.std.specs.Prelude.{All, true}
use Rattle.rail_model.specs.Rules.{is_named}
use Rattle.plan_book.specs.declared.shelf.Shelf.{Shelf}
use Rattle.plan_book.specs.Changes.{Widens}
use Rattle.plan_book.proofs.changes.add_missing.Given as goal

-- the first sections have shelves
abbrev pub invariant-loop-number : goal.invariant-loop-number
invariant-loop-number l = record {
  same : Widens l.first l.initial.shelves l.shelves;
  all : All (λ x. is_named (λ (s : Shelf). s.name) l.shelves x.name ≡ true) (take l.number l.tables.sections);
}
