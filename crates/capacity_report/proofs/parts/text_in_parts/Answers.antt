use Rattle.std.proofs.Common.{◌<◌, sym, subst, ◌∙◌, arith}
use Rattle.std.specs.Prelude.{length}
use Rattle.std.proofs.lemmas.Result.{IfOk-weaker}
use Rattle.capacity_report.specs.Parts.{IsPart}
use Rattle.capacity_report.proofs.PartTexts.{part_within, texts_of_all}
use Rattle.capacity_report.proofs.parts.text_in_parts.Goals as goal

pub map_vec-requires-after_bounds : goal.map_vec-requires-after_bounds
map_vec-requires-after_bounds g c κs within i x below read =
    let count = c.args.count in
    let parts = c.parts_of.result in
    let all = c.in_ok-parts.ensures in
    let few : i < parts = omega (arith, below, all.number) in
    let fits = part_within count parts c.parts_of.ensures i x few (subst (IsPart count parts i) (sym read) (all.each i x few)) in
    c.requires.accepts x fits.0 fits.1

pub returns : goal.returns
returns g c rows are =
    let count = c.args.count in
    let parts = c.parts_of.result in
    let jobs = c.in_ok-parts.parts in
    let all = c.in_ok-parts.ensures in
    let pieces = c.in_ok-map_vec.field-0 in
    let given = c.in_ok-map_vec.ensures in
    IfOk-weaker c.one_after_another.result _ _
    (λ text h.
    h.2 ∙ texts_of_all count parts c.parts_of.ensures _ rows are h.0 pieces.items h.1
    (sym pieces.ok.0 ∙ given.len ∙ jobs.ok.0 ∙ all.number)
    (λ i d l.
    let here : i < length jobs.items = omega (arith, l, all.number) in
    let made = (given.each i d here).1 in
    (made.job, subst (IsPart count parts i) (made.job_is made.job) (all.each i made.job l), made.call.met)))
    c.one_after_another.ensures
