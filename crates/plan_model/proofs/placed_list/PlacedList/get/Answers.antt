use Rattle.std.proofs.Common.{◌≡◌, rules, arith, to_z, of_z, w64}
use Rattle.plan_model.proofs.TrainAdded.{counted, train_is}
use Rattle.plan_model.proofs.placed_list.PlacedList.get.Goals as goal

pub at-planned-requires : goal.at-planned-requires
at-planned-requires c = omega (arith, c.requires, counted _ _ _ c.self.view_is c.self.invariant)

pub get-requires : goal.get-requires
get-requires c = omega (arith, c.requires, counted _ _ _ c.self.view_is c.self.invariant, c.self.invariant)

pub returns : goal.returns
returns c =
    let n = c.at-planned.result in
    let planned : to_z w64 (of_z w64 n.planned) ≡ n.planned = search rules in
    let entry : to_z w64 (of_z w64 n.entry) ≡ n.entry = search rules in
    rw (planned, entry, c.get.ensures) (train_is _ _ _ c.self.view_is c.self.invariant c.args.i n c.requires c.at-planned.ensures)
