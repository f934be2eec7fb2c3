use Rattle.std.proofs.Common.{length, sym, ap, ◌∙◌, subst, arith}
use Rattle.session_run.specs.Ahead.{AreWorkedOut, AreAhead}
use Rattle.session_run.proofs.AnsweredAhead.{are_ahead}
use Rattle.session_run.proofs.Running.{written_back}
use Rattle.session_run.proofs.ahead.first_answers.Goals as goal

pub returns : goal.returns
returns g c =
    let asked = c.in_ok-all.all in
    subst (AreAhead c.args.book.now)
    (sym (written_back asked.items c.work_all.new.all asked.len
    (omega (arith, c.deref_mut.ensures.len, ap length c.deref_mut.ensures.value))
    (c.work_all.auto.all ∙ ap length c.deref_mut.ensures.value)))
    (are_ahead c.args.book.now _ c.in_ok-readings.readings.items asked.items c.work_all.new.all
    c.journal-journal.ensures.is_journal.legal c.in_ok-readings.ensures.each c.in_ok-all.ensures
    (subst (λ old. AreWorkedOut old c.work_all.new.all) c.deref_mut.ensures.value c.work_all.ensures))
