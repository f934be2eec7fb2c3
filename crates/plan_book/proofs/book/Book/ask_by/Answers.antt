use Rattle.std.proofs.Common.{eqb, refl}
use Rattle.plan_model.specs.declared.scripts.Task.TheVariants as task
use Rattle.plan_book.proofs.NextTasks.{some_if, planner_within, journal_asked}
use Rattle.plan_book.proofs.book.Book.ask_by.Goals as goal

pub add-requires-clause-is_journal : goal.add-requires-clause-is_journal
add-requires-clause-is_journal c =
    let given = c.in_ok-asked.ensures.answered in
    rw c.replied-reply.ensures
    (journal_asked c.args.who c.args.planner c.args.section c.in_ok-asked.asked c.args.self.now _ c.answer_of.ensures.is_journal c.requires.may
    (record { adds = record { next = record { pass = c.requires.issued; follows = given.reply }; is = refl }; gives = given.gives }))

pub add-requires-clause-by : goal.add-requires-clause-by
add-requires-clause-by c = λ p from. some_if (eqb c.args.planner p) (task.Ask c.args.section)

pub add-requires-clause-planner : goal.add-requires-clause-planner
add-requires-clause-planner c = planner_within c.args.self.now c.args.planner (task.Ask c.args.section) c.requires.may
