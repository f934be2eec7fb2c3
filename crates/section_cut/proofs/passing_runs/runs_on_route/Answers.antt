use Rattle.std.proofs.Common.{ap, sym, ◌∙◌}
use Rattle.std.proofs.lemmas.Bool.{both_ways, false_from_ne_true}
use Rattle.std.proofs.lemmas.Option.{get_or_from_slice_get}
use Rattle.rail_model.specs.declared.items.Run.{Run}
use Rattle.rail_model.specs.Name.{is_same}
use Rattle.rail_model.specs.Tables.{no_run, run_at}
use Rattle.rail_model.proofs.NameOrder as names
use Rattle.section_cut.specs.ReachedRuns.{is_on}
use Rattle.section_cut.proofs.PathsStay.{told_more}
use Rattle.section_cut.proofs.passing_runs.runs_on_route.Goals as goal

pub loop-run-preserved : goal.loop-run-preserved
loop-run-preserved c =
    let runs = c.args.after.now.runs in
    let n = c.loop-run.run in
    let name = c.args.name.now in
    let b = c.same_name.result in
    let here = ap (λ (r : Run). r.route) (get_or_from_slice_get runs n c.run.result.now no_run c.run.ensures) in
    told_more (is_on name) runs c.loop-run.told.items c.push.new.self.items n b c.in_ok-push.ensures.items c.loop-run.invariant
    (λ out.
    false_from_ne_true (is_same (run_at c.args.after.now n).route name)
    (λ e. both_ways b out (c.same_name.ensures.1 (sym here ∙ names.same_name (run_at c.args.after.now n).route name e))))
