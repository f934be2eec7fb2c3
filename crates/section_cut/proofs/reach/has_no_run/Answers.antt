use Rattle.std.proofs.Common.{sym, ap, ◌∙◌, inl, inr, arith}
use Rattle.std.proofs.lemmas.Bool.{both_ways, cases_order}
use Rattle.std.proofs.lemmas.Option.{get_or_from_slice_get}
use Rattle.rail_model.specs.declared.items.Run.{Run}
use Rattle.rail_model.specs.Tables.{no_run, run_at}
use Rattle.section_cut.proofs.reach.has_no_run.Goals as goal

pub loop-n-preserved : goal.loop-n-preserved
loop-n-preserved c =
    let tables = c.args.tables.now in
    let n = c.loop-n.n in
    let here = get_or_from_slice_get tables.runs n c.run.result.now no_run c.run.ensures in
    λ k l e. elim (cases_order k n) [
      | inl same ↦
          both_ways c.same_name.result c.if-same_name.false
          (c.same_name.ensures.1 (ap (λ (r : Run). r.route) (sym here ∙ ap (run_at tables) (sym same)) ∙ e))
      | inr o ↦ elim o [
        | inl lt ↦ c.loop-n.invariant k lt e
        | inr gt ↦ absurd (omega (arith, l, gt))
      ]
    ]
