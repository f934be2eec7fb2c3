use Rattle.std.proofs.Common.{◌≡◌, ap, rules, arith, to_z, of_z, w64}
use Rattle.plan_model.specs.declared.answer.Placed.{Placed}
use Rattle.plan_model.proofs.TrainAdded.{counted, train_is}
use Rattle.plan_model.proofs.placed_list.PlacedList.entry.Goals as goal

pub at-requires : goal.at-requires
at-requires c = omega (arith, c.requires, counted _ _ _ c.self.view_is c.self.invariant)

pub returns : goal.returns
returns c =
    let same : to_z w64 (of_z w64 c.at.result.entry) ≡ c.at.result.entry = search rules in
    rw same
    (ap (λ (p : Placed). p.entry) (train_is _ _ _ c.self.view_is c.self.invariant c.args.i c.at.result c.requires c.at.ensures))
