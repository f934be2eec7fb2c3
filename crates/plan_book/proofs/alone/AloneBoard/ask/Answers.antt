use Rattle.std.proofs.Common.{refl}
use Rattle.plan_model.specs.Outcome.{AsksTo}
use Rattle.plan_book.proofs.Issuing.{gives_issues, entry_issues}
use Rattle.plan_book.proofs.ByOne.{still_issued, alone_call}
use Rattle.plan_book.proofs.alone.AloneBoard.ask.Goals as goal

pub invariant_of-self : goal.invariant_of-self
invariant_of-self g c =
    let a = c.args.self.now in
    let new = c.ask-asked.new.self in
    let none = gives_issues (AsksTo a.who 0 c.args.section) c.ask-asked.result a.book.now new (λ r h. entry_issues a.who _ a.book.now new refl h.adds) c.ask-asked.ensures in
    record { entered = still_issued a.who a.book.now new none a.entered }

pub returns-clause-call : goal.returns-clause-call
returns-clause-call g c =
    let a = c.args.self.now in
    let new = c.ask-asked.new.self in
    let none = gives_issues (AsksTo a.who 0 c.args.section) c.ask-asked.result a.book.now new (λ r h. entry_issues a.who _ a.book.now new refl h.adds) c.ask-asked.ensures in
    alone_call _ a.who a.readings a.handed a.readings a.handed a.book.now new a.entered c.journal-found.ensures.is_journal
    c.journal-left.ensures.is_journal none c.ask-asked.ensures
