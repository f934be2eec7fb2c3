use Rattle.std.proofs.Common.{subst}
use Rattle.plan_book.specs.Shelves.{IsPlaceOf, IsPlaceFor}
use Rattle.plan_book.proofs.Found.{named_at}
use Rattle.plan_book.proofs.Widening.{blank_widens, blank_there, blank_keeps}
use Rattle.plan_book.proofs.changes.add_shelf.Goals as goal

pub returns-in_ok-insert-clause-same : goal.returns-in_ok-insert-clause-same
returns-in_ok-insert-clause-same c =
    let shelves = c.args.shelves.now in
    let there = subst (λ s. IsPlaceFor s c.args.name.now c.in-Err.place) c.slice.ensures c.in-Err.ensures in
    rw (c.in_ok-insert.ensures.ok, c.blank.ensures) (blank_widens c.args.first shelves c.args.name.now c.in-Err.place c.requires there)

pub returns-in_ok-insert-clause-there : goal.returns-in_ok-insert-clause-there
returns-in_ok-insert-clause-there c =
    let shelves = c.args.shelves.now in
    let there = subst (λ s. IsPlaceFor s c.args.name.now c.in-Err.place) c.slice.ensures c.in-Err.ensures in
    rw (c.in_ok-insert.ensures.ok, c.blank.ensures) (blank_there c.args.first shelves c.args.name.now c.in-Err.place c.requires there)

pub returns-in_ok-insert-clause-kept : goal.returns-in_ok-insert-clause-kept
returns-in_ok-insert-clause-kept c =
    let shelves = c.args.shelves.now in
    let there = subst (λ s. IsPlaceFor s c.args.name.now c.in-Err.place) c.slice.ensures c.in-Err.ensures in
    rw (c.in_ok-insert.ensures.ok, c.blank.ensures) (blank_keeps c.args.first shelves c.args.name.now c.in-Err.place c.requires there)

pub returns-in_default-clause-there : goal.returns-in_default-clause-there
returns-in_default-clause-there c =
    let there = subst (λ s. IsPlaceOf s c.args.name.now c.in_default.field-0) c.slice.ensures c.in_default.ensures in
    named_at c.args.shelves.now c.args.name.now c.in_default.field-0 there
