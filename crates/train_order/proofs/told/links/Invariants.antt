use Rattle.std.proofs.Common.{◌≡◌, ◌++◌, map, take, drop}
use Rattle.std.specs.List.{zip}
use Rattle.plan_model.specs.Disorder.{link_of}
use Rattle.train_order.proofs.told.links.Given as goal

abbrev pub invariant-loop-k : goal.invariant-loop-k
invariant-loop-k l = l.links ≡ map (link_of l.cut) (take l.k (zip l.members (drop 1 l.members ++ take 1 l.members)))
