use Rattle.std.proofs.Common.{ap, arith}
use Rattle.plan_model.specs.declared.answer.Placed.{Placed}
use Rattle.plan_model.proofs.TrainAdded.{counted, train_is}
use Rattle.plan_model.proofs.placed_list.PlacedList.tie.Goals as goal

pub at-requires : goal.at-requires
at-requires c = omega (arith, c.requires, counted _ _ _ c.self.view_is c.self.invariant)

pub returns : goal.returns
returns c =
    ap (λ (p : Placed). p.tie) (train_is _ _ _ c.self.view_is c.self.invariant c.args.i c.at.result c.requires c.at.ensures)
