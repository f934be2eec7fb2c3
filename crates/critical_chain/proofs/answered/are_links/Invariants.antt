use Rattle.std.proofs.Common.{◌≡◌, ◌++◌, map, take, drop}
use Rattle.std.specs.List.{zip}
use Rattle.plan_model.specs.Disorder.{link_of}
use Rattle.critical_chain.proofs.answered.are_links.Given as goal

-- the first links are those of the ring
abbrev pub invariant-loop-k : goal.invariant-loop-k
invariant-loop-k l = take l.k l.links ≡ map (link_of l.cut) (take l.k (zip l.members (drop 1 l.members ++ take 1 l.members)))
