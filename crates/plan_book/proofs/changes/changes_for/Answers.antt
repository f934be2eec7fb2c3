use Rattle.std.proofs.Common.{subst}
use Rattle.plan_book.specs.Changes.{AreChanges, HoldsOfEach, IsReady}
use Rattle.plan_book.proofs.Alike.{alike_widens, all_alike, changes_alike, have_their_places}
use Rattle.plan_book.proofs.Edited.{each_has_cut, cuts_wider}
use Rattle.plan_book.proofs.Widening.{widens_further}
use Rattle.plan_book.proofs.changes.changes_for.Goals as goal

pub changes_of-requires-clause-cuts : goal.changes_of-requires-clause-cuts
changes_of-requires-clause-cuts c =
    let before = c.args.accepted.before.now in
    let new = c.add_missing.new.shelves in
    let wider = c.in_ok-add_missing.ensures.same in
    rw c.slice.ensures
    (each_has_cut before c.args.first new wider.rise
    (cuts_wider before c.args.first c.args.shelves.now new wider c.requires.cuts))

pub returns-clause-same : goal.returns-clause-same
returns-clause-same c =
    let missing = c.add_missing.new.shelves in
    let ready = c.make_ready.new.shelves in
    let wider = c.in_ok-add_missing.ensures.same in
    widens_further c.args.first c.args.shelves.now missing ready wider (alike_widens missing ready c.make_ready.ensures.same c.args.first wider.rise)

pub returns-in_err-make_ready-clause-same : goal.returns-in_err-make_ready-clause-same
returns-in_err-make_ready-clause-same c =
    let missing = c.add_missing.new.shelves in
    let ready = c.make_ready.new.shelves in
    let wider = c.in_ok-add_missing.ensures.same in
    widens_further c.args.first c.args.shelves.now missing ready wider (alike_widens missing ready c.make_ready.ensures.same c.args.first wider.rise)

pub make_ready-requires-clause-places : goal.make_ready-requires-clause-places
make_ready-requires-clause-places c =
    let a = c.args.accepted in
    let made = subst (λ s. AreChanges a.before.now a.after.now a.number s c.in_ok-changes.changes) c.slice.ensures c.in_ok-changes.ensures in
    rw c.slice-2.ensures
    (have_their_places a.before.now a.after.now a.number c.add_missing.new.shelves c.in_ok-changes.changes made)

pub returns-clause-made : goal.returns-clause-made
returns-clause-made c =
    let a = c.args.accepted in
    let missing = c.add_missing.new.shelves in
    let ready = c.make_ready.new.shelves in
    let alike = c.make_ready.ensures.same in
    let made = subst (λ s. AreChanges a.before.now a.after.now a.number s c.in_ok-changes.changes) c.slice.ensures c.in_ok-changes.ensures in
    record {
      all = all_alike missing ready alike a.after.now c.in_ok-add_missing.ensures.all;
      made = changes_alike missing ready alike a.before.now a.after.now a.number c.in_ok-changes.changes made;
      ready = subst (HoldsOfEach IsReady ready) c.slice-2.ensures c.in_ok-make_ready.ensures.ready;
    }
