use Rattle.std.proofs.Common.{arith, ◌+◌, ◌∙◌, ap, sym, subst}
use Rattle.rail_model.specs.Rules.{after}
use Rattle.plan_model.specs.declared.journal.Act.TheVariants as act
use Rattle.plan_model.specs.declared.journal.Entry.{Entry}
use Rattle.plan_model.specs.Journal.{last_number, tables_of}
use Rattle.plan_model.specs.Legal.{IsNext}
use Rattle.plan_model.specs.declared.scripts.Task.TheVariants as task
use Rattle.plan_book.specs.Kept.{MayDo}
use Rattle.plan_book.specs.Changes.{WillChange}
use Rattle.plan_book.proofs.NextTasks.{planner_within, few_done}
use Rattle.plan_book.proofs.Edited.{have_cuts, book-wider, book-accepted}
use Rattle.plan_book.proofs.book.Book.accept.Goals as goal

pub changes_for-requires-clause-cuts : goal.changes_for-requires-clause-cuts
changes_for-requires-clause-cuts c =
    let b = c.self.inside in
    rw (c.tables.ensures, c.self.invariant.tables_are) (have_cuts b.journal b.first b.shelves c.self.invariant.shelves_are)

pub changes_for-requires-clause-after : goal.changes_for-requires-clause-after
changes_for-requires-clause-after c =
    c.deref.ensures
    ∙ c.requires.next
    ∙ ap (λ t. after t c.args.edit) (ap tables_of (sym c.self.view_is) ∙ sym c.self.invariant.tables_are ∙ sym c.tables.ensures)

pub invariant_of-self : goal.invariant_of-self
invariant_of-self c =
    let b = c.self.inside in
    book-wider b.journal b.tables b.first b.at b.passes b.shelves c.changes_for.new.shelves b.done.items c.self.invariant c.changes_for.ensures.same

pub invariant_of-self-in_err-add_edited : goal.invariant_of-self-in_err-add_edited
invariant_of-self-in_err-add_edited c =
    let b = c.self.inside in
    rw c.in_err-add_edited.ensures.err
    (book-wider b.journal b.tables b.first b.at b.passes b.shelves c.changes_for.new.shelves b.done.items c.self.invariant c.changes_for.ensures.same)

pub invariant_of-self-2 : goal.invariant_of-self-2
invariant_of-self-2 c =
    let b = c.self.inside in
    let number = c.next_number-number.result in
    let wider = book-wider b.journal b.tables b.first b.at b.passes b.shelves c.changes_for.new.shelves b.done.items c.self.invariant c.changes_for.ensures.same in
    let e : Entry = record { pass = c.args.who; act = act.Edited c.args.planner number c.args.edit } in
    let may : IsNext b.journal e =
    subst (λ j. IsNext j e) (sym c.self.view_is)
    (record { pass = c.requires.issued; follows = (c.next_number-number.ensures.number, c.requires.rule) }) in
    let may_do = subst (λ j. MayDo j c.args.planner (task.Edit c.args.edit)) (sym c.self.view_is) c.requires.may in
    let number_is = c.next_number-number.ensures.number ∙ ap (λ n. n + 1) (ap last_number (sym c.self.view_is) ∙ sym c.self.invariant.at_is) in
    let next_is = c.requires.next ∙ ap (λ t. after t c.args.edit) (ap tables_of (sym c.self.view_is) ∙ sym c.self.invariant.tables_are) in
    let changes = c.in_ok-changes.changes in
    let will = subst (λ n. WillChange b.tables n number c.changes_for.new.shelves changes) c.deref.ensures
    (subst (λ t. WillChange t c.deref.result.now number c.changes_for.new.shelves changes) c.tables.ensures c.in_ok-changes.ensures.made) in
    rw (c.in_ok-add_edited.ensures.ok, c.replace.ensures)
    (book-accepted b.journal b.tables b.first b.at b.passes c.changes_for.new.shelves c.change_shelves.new.shelves changes b.done.items c.count_task.new.done.items
    c.args.who c.args.planner c.args.edit number c.args.next.value wider may may_do number_is next_is will c.change_shelves.ensures c.count_task.ensures)

pub count_task-requires-clause-there : goal.count_task-requires-clause-there
count_task-requires-clause-there c =
    let b = c.self.inside in
    let may_do = subst (λ j. MayDo j c.args.planner (task.Edit c.args.edit)) (sym c.self.view_is) c.requires.may in
    omega (arith, planner_within b.journal c.args.planner (task.Edit c.args.edit) may_do, c.self.invariant.done_are.count)

pub count_task-requires-clause-room : goal.count_task-requires-clause-room
count_task-requires-clause-room c =
    let b = c.self.inside in
    few_done b.journal b.done.items c.self.invariant.is_journal c.self.invariant.within c.self.invariant.done_are
