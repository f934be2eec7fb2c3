use Rattle.std.proofs.Common.{eqb, Err, refl}
use Rattle.plan_model.specs.declared.scripts.Task.TheVariants as task
use Rattle.plan_book.proofs.NextTasks.{some_if, planner_within, journal_edited}
use Rattle.plan_book.proofs.book.Book.refuse.Goals as goal

pub add-requires-clause-is_journal : goal.add-requires-clause-is_journal
add-requires-clause-is_journal c =
    journal_edited c.args.who c.args.planner c.args.edit (Err c.args.rule) c.args.self.now _ c.journal-journal.ensures.is_journal c.requires.may
    (record { next = record { pass = c.requires.issued; follows = c.requires.rule }; is = refl })

pub add-requires-clause-by : goal.add-requires-clause-by
add-requires-clause-by c = λ p from. some_if (eqb c.args.planner p) (task.Edit c.args.edit)

pub add-requires-clause-planner : goal.add-requires-clause-planner
add-requires-clause-planner c = planner_within c.args.self.now c.args.planner (task.Edit c.args.edit) c.requires.may
