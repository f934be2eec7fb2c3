use Rattle.std.proofs.Common.{◌≡◌, List, [], ◌∷◌, ◌++◌, ap, ◌∙◌, rules, to_z, of_z, w64}
use Rattle.plan_model.specs.declared.answer.Placed.{Placed}
use Rattle.plan_model.specs.declared.train_numbers.TrainNumbers.{TrainNumbers}
use Rattle.plan_model.specs.PlacedList.{with_name}
use Rattle.plan_model.proofs.TrainAdded.{beside_more}
use Rattle.plan_model.proofs.placed_list.PlacedList.push.Goals as goal

pub returns-in-Ok-clause-ok : goal.returns-in-Ok-clause-ok
returns-in-Ok-clause-ok c =
    let t = c.args.placed.now in
    let n : TrainNumbers = record { planned = t.planned; entry = t.entry; tie = t.tie } in
    let planned : to_z w64 (of_z w64 t.planned) ≡ t.planned = search rules in
    let entry : to_z w64 (of_z w64 t.entry) ≡ t.entry = search rules in
    rw (c.in-Ok.ensures.ok, c.in_ok-push.ensures.ok, planned, entry)
    (beside_more with_name c.self.inside.names c.self.inside.numbers t.train n c.self.invariant
    ∙ ap (λ (ts : List Placed). ts ++ t ∷ []) c.self.view_is)
