use Rattle.std.proofs.Common.{sym, ◌∙◌}
use Rattle.rail_model.specs.Tables.{section_at}
use Rattle.section_cut.proofs.OneRun.{run_found, run_missing}
use Rattle.section_cut.proofs.one_run.passes.Goals as goal

pub returns-in-Some : goal.returns-in-Some
returns-in-Some c out =
    let tables = c.args.tables.now in
    let section = section_at tables c.args.section in
    let found = run_found tables c.args.name.now c.in-Some.number c.in-Some.ensures.number c.in-Some.ensures.in_range in
    rw found (sym c.passes_section.ensures ∙ out)

pub returns-in-None : goal.returns-in-None
returns-in-None c _ = rw (run_missing c.args.tables.now c.args.name.now (sym c.in-None.ensures.there)) tt
