use Rattle.std.proofs.Common.{◌∙◌, arith}
use Rattle.plan_model.proofs.TrainAdded.{counted, name_is}
use Rattle.plan_model.proofs.placed_list.PlacedList.name.Goals as goal

pub bytes-requires : goal.bytes-requires
bytes-requires c = omega (arith, c.requires, counted _ _ _ c.self.view_is c.self.invariant, c.self.invariant)

pub returns : goal.returns
returns c = c.bytes.ensures.same ∙ name_is _ _ _ c.self.view_is c.self.invariant c.args.i c.requires
