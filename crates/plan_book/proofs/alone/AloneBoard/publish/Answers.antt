use Rattle.std.proofs.Common.{sym, ap, subst}
use Rattle.plan_model.specs.Journal.{issued}
use Rattle.plan_model.specs.Legal.{IsJournal}
use Rattle.plan_book.proofs.Issuing.{publish_issues}
use Rattle.plan_book.proofs.ByOne.{still_issued, alone_call}
use Rattle.plan_book.proofs.alone.AloneBoard.publish.Goals as goal

pub invariant_of-self : goal.invariant_of-self
invariant_of-self g c =
    let a = c.args.self.now in
    let new = c.publish.new.self in
    let none = publish_issues a.who a.book.now new c.args.done c.in-Ok.published c.in-Ok.ensures in
    record { entered = still_issued a.who a.book.now new none a.entered }

pub returns-in-Ok-clause-call : goal.returns-in-Ok-clause-call
returns-in-Ok-clause-call g c =
    let a = c.args.self.now in
    let new = c.publish.new.self in
    let none = publish_issues a.who a.book.now new c.args.done c.in-Ok.published c.in-Ok.ensures in
    alone_call _ a.who a.readings a.handed a.readings c.taken-self.result a.book.now new a.entered c.journal-found.ensures.is_journal
    c.journal-left.ensures.is_journal none c.in-Ok.ensures

pub returns-clause-call : goal.returns-clause-call
returns-clause-call g c =
    let a = c.args.self.now in
    let new = c.publish.new.self in
    alone_call _ a.who a.readings a.handed a.readings a.handed a.book.now new a.entered c.journal-found.ensures.is_journal
    (subst IsJournal (sym c.in-Err.ensures) c.journal-found.ensures.is_journal) (ap issued c.in-Err.ensures) c.in-Err.ensures
