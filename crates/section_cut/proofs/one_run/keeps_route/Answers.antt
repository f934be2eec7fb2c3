use Rattle.std.proofs.Common.{◌≡◌, sym, ap, ◌∙◌}
use Rattle.std.proofs.lemmas.Option.{get_or_from_slice_get}
use Rattle.rail_model.specs.declared.items.Run.{Run}
use Rattle.rail_model.specs.Tables.{no_run, run_at}
use Rattle.section_cut.proofs.one_run.keeps_route.Goals as goal

pub returns : goal.returns
returns c e =
    let earlier = c.args.before.now in
    let later = c.args.after.now in
    let old : c.run.result.now ≡ run_at earlier c.in-Some.old = sym (get_or_from_slice_get earlier.runs c.in-Some.old c.run.result.now no_run c.run.ensures) in
    let new : c.run-2.result.now ≡ run_at later c.in-Some-run_number.new = sym (get_or_from_slice_get later.runs c.in-Some-run_number.new c.run-2.result.now no_run c.run-2.ensures) in
    record {
      before = sym c.in-Some.ensures.there;
      after = sym c.in-Some-run_number.ensures.there;
      route =
          ap (λ k. (run_at later k).route) (sym c.in-Some-run_number.ensures.number) ∙ ap (λ (r : Run). r.route) (sym new)
          ∙ sym (c.same_name.ensures.0 e)
          ∙ ap (λ (r : Run). r.route) old ∙ ap (λ k. (run_at earlier k).route) c.in-Some.ensures.number;
    }
