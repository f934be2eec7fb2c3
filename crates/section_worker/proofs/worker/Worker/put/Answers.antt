use Rattle.std.proofs.Common.{subst}
use Rattle.section_worker.specs.Keeping.{Working, Keeps}
use Rattle.section_worker.proofs.Keeps.{keeps}
use Rattle.section_worker.proofs.worker.Worker.put.Goals as goal

pub returns-clause-ok : goal.returns-clause-ok
returns-clause-ok c =
    let w = c.self.inside in
    let later : Working = record { share = w.share; of = w.of; actor = w.actor; kept = c.insert.new.self.entries } in
    subst (λ x. Keeps c.args.section c.args.kept x later) c.self.view_is
    (keeps w.share w.of w.actor c.args.section w.kept c.insert.new.self c.args.kept c.in_ok-insert.ensures.updates)
