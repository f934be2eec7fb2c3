use Rattle.std.proofs.Common.{subst}
use Rattle.std.specs.Prelude.{IfSome}
use Rattle.plan_model.specs.Outcome.{IsNextReading}
use Rattle.acceptance_seats.proofs.Agreeing.{is_kept}
use Rattle.acceptance_seats.proofs.repairs.first_kept.Goals as goal

pub returns : goal.returns
returns c =
    let book = c.args.book.now in
    is_kept book c.in-Some.reading c.in_ok-keep.keep c.journal-journal.ensures.is_journal
    (subst (λ r. IfSome r (IsNextReading 0 1 book)) c.in-Some.is c.in_ok-reading.ensures) c.in_ok-keep.ensures.keep
