use Rattle.std.proofs.Common.{◌≡◌, List, IfOk, sum_by, refl, ap, ◌∙◌}
use Rattle.std.proofs.lemmas.List.Elements.{All-same}
use Rattle.std.proofs.lemmas.Result.{IfOk-at_ok}
use Rattle.turn_desk.specs.Entering.{EntersAll}
use Rattle.turn_desk.specs.Known.{Known, IsReady}
use Rattle.turn_desk.proofs.Drawing.{new_passes-all}
use Rattle.acceptance_desk.specs.declared.tests.desk.Note.{Note}
use Rattle.acceptance_desk.proofs.tests.desk.started.Goals as goal

pub returns-clause-others : goal.returns-clause-others
returns-clause-others g c =
    let desk = c.in_ok-desk.desk in
    let enters : List (Known Note) → Type 0 = λ ps. EntersAll (λ (n : Note). n.by) (sum_by (λ (n : Note). n.draws))
    c.in_ok-desk.main c.enter.new.pass c.args.count ps in
    let entered : IfOk c.in_ok-enter.field-0 enters = c.in_ok-enter.ensures.ok in
    let all = IfOk-at_ok enters c.in_ok-passes.was entered in
    let of_desk : c.in_ok-desk.main.desk ≡ desk = ap (λ (k : Known Note). k.desk) c.in_ok-desk.ensures in
    All-same (IsReady desk) _ _ (c.into_vec.ensures ∙ all.passes)
    (new_passes-all (IsReady desk) c.in_ok-desk.main.desk c.enter.new.pass.seen _ c.args.count
    (λ k. record { desk_is = of_desk; idle = refl }))
