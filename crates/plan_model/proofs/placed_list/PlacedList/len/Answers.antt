use Rattle.std.proofs.Common.{arith}
use Rattle.plan_model.proofs.TrainAdded.{counted}
use Rattle.plan_model.proofs.placed_list.PlacedList.len.Goals as goal

pub returns : goal.returns
returns c = omega (arith, c.len.ensures, counted _ _ _ c.self.view_is c.self.invariant)
