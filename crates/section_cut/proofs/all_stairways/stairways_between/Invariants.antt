use Rattle.std.proofs.Common.{◌≡◌, map, take}
use Rattle.std.specs.Prelude.{drop}
use Rattle.rail_model.specs.Blocking.{stair_of}
use Rattle.section_cut.proofs.all_stairways.stairways_between.Given as goal

-- the stairways so far
abbrev pub invariant-loop-run : goal.invariant-loop-run
invariant-loop-run l = l.all ≡ drop l.from (take l.run (map stair_of l.paths))
