use Rattle.std.proofs.Common.{Some, sym, ap, ◌∙◌}
use Rattle.std.specs.Prelude.{option_map}
use Rattle.rail_model.specs.declared.items.Run.{Run}
use Rattle.rail_model.specs.Blocking.{stair_of}
use Rattle.rail_model.specs.Tables.{path_in}
use Rattle.section_cut.proofs.OneRun.{run_found, run_missing}
use Rattle.section_cut.proofs.one_run.stair_named.Goals as goal

pub returns-in_default : goal.returns-in_default
returns-in_default c =
    let tables = c.args.tables.now in
    sym (ap (option_map (λ (run : Run). stair_of (path_in tables run))) (run_missing tables c.args.name.now (sym c.in_default.ensures.there)))

pub returns : goal.returns
returns c =
    let tables = c.args.tables.now in
    let found = run_found tables c.args.name.now c.in-Some.number c.in-Some.ensures.number c.in-Some.ensures.in_range in
    ap Some (c.of.ensures ∙ c.in_ok-stairs.ensures.same ∙ ap stair_of c.in_ok-path.ensures.same)
    ∙ sym (ap (option_map (λ (run : Run). stair_of (path_in tables run))) found)
