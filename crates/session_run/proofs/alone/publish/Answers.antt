use Rattle.std.proofs.Common.{subst}
use Rattle.plan_model.specs.Outcome.{PublishesTo}
use Rattle.session_run.proofs.AnsweredAhead.{ahead_on}
use Rattle.session_run.proofs.Keeping.{keeps_on}
use Rattle.session_run.proofs.Publishing.{main_issued, not_refused, is_published}
use Rattle.session_run.proofs.alone.publish.Goals as goal

pub publish-requires-clause-issued : goal.publish-requires-clause-issued
publish-requires-clause-issued c = main_issued c.args.book.now

pub publish-requires-clause-done : goal.publish-requires-clause-done
publish-requires-clause-done c = c.in_ok-done.ensures.done.is_done

pub unreachable-requires : goal.unreachable-requires
unreachable-requires c =
    not_refused c.args.book.now c.publish.new.self c.args.reading c.in_ok-done.done c.in_default.field-0 c.requires.next c.in_ok-done.ensures.done
    (subst (λ r. PublishesTo 0 c.in_ok-done.done c.args.book.now r c.publish.new.self) c.in_default.is c.in_ok-publish.ensures)

pub returns-clause-published : goal.returns-clause-published
returns-clause-published c =
    is_published c.args.book.now c.publish.new.self c.args.reading c.in_ok-done.done c.requires.next c.in_ok-done.ensures.done
    (subst (λ r. PublishesTo 0 c.in_ok-done.done c.args.book.now r c.publish.new.self) c.in-Ok.is c.in_ok-publish.ensures)
    c.journal-found.ensures.is_journal.legal c.journal-left.ensures.is_journal.legal

pub returns-clause-kept : goal.returns-clause-kept
returns-clause-kept c =
    keeps_on c.done_now.new.worker c.args.book.now _ c.publish.new.self
    (subst (λ r. PublishesTo 0 c.in_ok-done.done c.args.book.now r c.publish.new.self) c.in-Ok.is c.in_ok-publish.ensures).is
    c.in_ok-done.ensures.kept

pub returns-clause-ahead : goal.returns-clause-ahead
returns-clause-ahead c =
    ahead_on c.args.book.now _ c.publish.new.self c.done_now.new.ahead
    (subst (λ r. PublishesTo 0 c.in_ok-done.done c.args.book.now r c.publish.new.self) c.in-Ok.is c.in_ok-publish.ensures).is
    c.in_ok-done.ensures.ahead
