use Rattle.std.proofs.Common.{subst}
use Rattle.section_worker.specs.Keeping.{Working, Forgets}
use Rattle.section_worker.proofs.Keeps.{forgets}
use Rattle.section_worker.proofs.worker.Worker.take.Goals as goal

pub returns-clause-forgets : goal.returns-clause-forgets
returns-clause-forgets c =
    let w = c.self.inside in
    let later : Working = record { share = w.share; of = w.of; actor = w.actor; kept = c.remove.new.self.entries } in
    subst (λ x. Forgets c.args.section.now x later) c.self.view_is
    (forgets w.share w.of w.actor c.args.section.now w.kept c.remove.new.self c.remove.ensures.updates)
