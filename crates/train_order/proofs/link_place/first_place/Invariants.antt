use Rattle.std.proofs.Common.{take}
use Rattle.plan_model.specs.Members.{member, AnswersFirst}
use Rattle.train_order.specs.Starts.{places_first}
use Rattle.train_order.proofs.link_place.first_place.Given as goal

-- the first of the places of the uses so far
abbrev pub invariant-loop-one : goal.invariant-loop-one
invariant-loop-one l =
    AnswersFirst l.cut (places_first l.named (take l.one-index l.uses) (member l.cut l.j).uses) l.best
