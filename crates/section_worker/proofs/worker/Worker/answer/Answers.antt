use Rattle.std.proofs.Common.{sym, subst, ap}
use Rattle.section_worker.specs.Keeping.{Forgets}
use Rattle.rail_outside.proofs.Pieces.{after_error}
use Rattle.section_worker.proofs.Keeps.{keeps_new}
use Rattle.section_worker.proofs.worker.Worker.answer.Goals as goal

pub returns-in_err-kept-clause-err : goal.returns-in_err-kept-clause-err
returns-in_err-kept-clause-err g c =
    after_error c.from_residual.result
    (subst (λ s. Forgets s c.args.self.now c.take-kept.new.self) (ap (λ s. s.name) c.section.ensures)
    c.take-kept.ensures.forgets)

pub returns-in_err-put-clause-err : goal.returns-in_err-put-clause-err
returns-in_err-put-clause-err g c =
    after_error c.from_residual-in_err-put.result
    (subst (λ w. Forgets (g.R.Rows.shown c.args.reading.now).cut.section.name c.args.self.now w)
    (sym c.in_err-put.ensures.err)
    (subst (λ s. Forgets s c.args.self.now c.take-kept.new.self) (ap (λ s. s.name) c.section.ensures)
    c.take-kept.ensures.forgets))

pub returns-clause-ok : goal.returns-clause-ok
returns-clause-ok g c =
    keeps_new c.section.result.now.name (g.R.Rows.shown c.args.reading.now) c.args.self.now c.take-kept.new.self
    c.put.new.self c.in_ok-kept.kept (ap (λ s. s.name) c.section.ensures) c.in_ok-kept.ensures.keep
    c.take-kept.ensures.forgets c.in_ok-put.ensures.ok
