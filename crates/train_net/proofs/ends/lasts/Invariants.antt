use Rattle.std.proofs.Common.{◌≡◌, map, take}
use Rattle.std.specs.Option.{option_map}
use Rattle.train_net.specs.Reading.{last_by}
use Rattle.train_net.proofs.ends.lasts.Given as goal

-- the last uses of the first places
abbrev pub invariant-loop-one : goal.invariant-loop-one
invariant-loop-one l = l.lasts.items ≡ map (option_map (last_by l.cut l.entries)) (take l.one-index l.near)
