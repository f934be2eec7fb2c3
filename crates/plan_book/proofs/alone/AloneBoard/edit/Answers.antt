use Rattle.plan_model.specs.Outcome.{EditsTo}
use Rattle.plan_book.proofs.Issuing.{gives_issues, edit_issues}
use Rattle.plan_book.proofs.ByOne.{still_issued, alone_call}
use Rattle.plan_book.proofs.alone.AloneBoard.edit.Goals as goal

pub invariant_of-self : goal.invariant_of-self
invariant_of-self g c =
    let a = c.args.self.now in
    let new = c.edit-edited.new.self in
    let none = gives_issues (EditsTo a.who 0 c.args.edit) c.edit-edited.result a.book.now new (edit_issues a.who a.book.now new 0 c.args.edit) c.edit-edited.ensures in
    record { entered = still_issued a.who a.book.now new none a.entered }

pub returns-clause-call : goal.returns-clause-call
returns-clause-call g c =
    let a = c.args.self.now in
    let new = c.edit-edited.new.self in
    let none = gives_issues (EditsTo a.who 0 c.args.edit) c.edit-edited.result a.book.now new (edit_issues a.who a.book.now new 0 c.args.edit) c.edit-edited.ensures in
    alone_call _ a.who a.readings a.handed a.readings a.handed a.book.now new a.entered c.journal-found.ensures.is_journal
    c.journal-left.ensures.is_journal none c.edit-edited.ensures
