use Rattle.std.proofs.Common.{◌≡◌, refl}
use Rattle.std.proofs.lemmas.Result.{err_from_is_err_and}
use Rattle.plan_book.proofs.ByOne.{alone_call, counts_next}
use Rattle.plan_book.proofs.alone.AloneBoard.read_next.Goals as goal

pub returns-clause-call : goal.returns-clause-call
returns-clause-call g c =
    let a = c.args.self.now in
    alone_call _ a.who a.readings a.handed c.counted-self.result a.handed a.book.now a.book.now a.entered c.journal-found.ensures.is_journal
    c.journal-found.ensures.is_journal refl c.in_ok-next.ensures

pub returns-in_err-next-clause-call : goal.returns-in_err-next-clause-call
returns-in_err-next-clause-call g c =
    let a = c.args.self.now in
    let is = err_from_is_err_and c.from_residual.result c.from_residual.ensures.1 in
    rw is.1
    (alone_call (λ found after. after ≡ found) a.who a.readings a.handed a.readings a.handed a.book.now a.book.now a.entered
    c.journal-found.ensures.is_journal c.journal-found.ensures.is_journal refl refl)

pub returns-clause-counts : goal.returns-clause-counts
returns-clause-counts g c =
    let a = c.args.self.now in
    rw c.counted-self.ensures (counts_next c.in_ok-next.next a.who a.readings a.handed a.book.now a.book.now)
