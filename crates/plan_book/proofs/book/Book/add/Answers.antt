use Rattle.std.proofs.Common.{◌≤◌, length, sym, subst, arith, ◌++◌, ◌∷◌, []}
use Rattle.plan_model.specs.declared.journal.Entry.{Entry}
use Rattle.plan_model.specs.Journal.{opening}
use Rattle.plan_model.specs.Legal.{IsJournal}
use Rattle.plan_book.proofs.Adding.{book-quiet}
use Rattle.plan_book.proofs.NextTasks.{few_done}
use Rattle.plan_book.proofs.book.Book.add.Goals as goal

pub count_task-requires-clause-there : goal.count_task-requires-clause-there
count_task-requires-clause-there c =
    let within = subst (λ j. c.args.planner ≤ length (opening j).scripts) (sym c.self.view_is) c.requires.planner in
    omega (arith, within, c.self.invariant.done_are.count)

pub count_task-requires-clause-room : goal.count_task-requires-clause-room
count_task-requires-clause-room c =
    let b = c.self.inside in
    few_done b.journal b.done.items c.self.invariant.is_journal c.self.invariant.within c.self.invariant.done_are

pub invariant_of-self-2 : goal.invariant_of-self-2
invariant_of-self-2 c =
    let b = c.self.inside in
    let e : Entry = record { pass = c.args.who; act = c.args.act } in
    let is_journal = subst (λ j. IsJournal (j ++ e ∷ [])) (sym c.self.view_is) c.requires.is_journal in
    rw c.in_ok-push.ensures.ok
    (book-quiet b.journal b.tables b.first b.at b.passes b.shelves b.done.items e c.self.invariant is_journal
    c.args.planner c.count_task.new.done.items c.requires.quiet c.requires.by c.count_task.ensures)
