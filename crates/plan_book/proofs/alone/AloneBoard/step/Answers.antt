use Rattle.plan_model.specs.Outcome.{StepsTo}
use Rattle.plan_book.proofs.Issuing.{gives_issues, step_issues}
use Rattle.plan_book.proofs.ByOne.{still_issued, alone_call}
use Rattle.plan_book.proofs.alone.AloneBoard.step.Goals as goal

pub invariant_of-self : goal.invariant_of-self
invariant_of-self g c =
    let a = c.args.self.now in
    let new = c.step-stepped.new.self in
    let none = gives_issues (StepsTo a.who c.args.planner) c.step-stepped.result a.book.now new (step_issues a.who a.book.now new c.args.planner) c.step-stepped.ensures in
    record { entered = still_issued a.who a.book.now new none a.entered }

pub returns-clause-call : goal.returns-clause-call
returns-clause-call g c =
    let a = c.args.self.now in
    let new = c.step-stepped.new.self in
    let none = gives_issues (StepsTo a.who c.args.planner) c.step-stepped.result a.book.now new (step_issues a.who a.book.now new c.args.planner) c.step-stepped.ensures in
    alone_call _ a.who a.readings a.handed a.readings a.handed a.book.now new a.entered c.journal-found.ensures.is_journal
    c.journal-left.ensures.is_journal none c.step-stepped.ensures
