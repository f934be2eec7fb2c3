use Rattle.std.proofs.Common.{length, ap, subst, arith}
use Rattle.rail_model.specs.declared.tables.Tables.{Tables}
use Rattle.plan_model.specs.Outcome.{ReadsTo}
use Rattle.plan_model.proofs.Legality.{legal_has_one}
use Rattle.session_run.proofs.CatchingUp.{nothing_yet, one_more, all_answered, enough_steps}
use Rattle.session_run.proofs.alone.catch_up.Goals as goal

pub loop-step-init : goal.loop-step-init
loop-step-init c = (nothing_yet c.args.book.now, c.requires.kept, c.requires.ahead)

pub returns-in_default-clause-ok : goal.returns-in_default-clause-ok
returns-in_default-clause-ok c =
    let now = c.loop-step.book in
    all_answered c.loop-step.step c.args.book.now now c.loop-step.invariant.0
    (subst (λ n. ReadsTo (λ r. r) 0 1 now n now) c.in_default.is c.in_ok-reading.ensures).1

pub publish-requires-clause-next : goal.publish-requires-clause-next
publish-requires-clause-next c =
    let now = c.loop-step.book in
    (subst (λ n. ReadsTo (λ r. r) 0 1 now n now) c.in-Reading.is c.in_ok-reading.ensures).1

pub loop-step-preserved : goal.loop-step-preserved
loop-step-preserved c =
    let now = c.loop-step.book in (
      one_more c.loop-step.step c.args.book.now now c.in-Reading.reading (legal_has_one c.args.book.now c.journal-journal.ensures.is_journal.legal)
          c.loop-step.invariant.0
          (subst (λ n. ReadsTo (λ r. r) 0 1 now n now) c.in-Reading.is c.in_ok-reading.ensures).1
          c.publish.new.book c.in_ok-publish.ensures.published,
      c.in_ok-publish.ensures.kept,
      c.in_ok-publish.ensures.ahead,
    )

pub returns-clause-ok : goal.returns-clause-ok
returns-clause-ok c =
    enough_steps c.loop-step.step c.args.book.now c.loop-step.book c.loop-step.invariant.0
    (legal_has_one c.args.book.now c.journal-journal.ensures.is_journal.legal)
    (omega (arith, c.loop-step-test.false, c.sections-step-end.ensures, ap (λ (t : Tables). length t.sections) c.tables.ensures))
