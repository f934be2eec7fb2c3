use Rattle.std.proofs.Common.{◌≡◌, map, take}
use Rattle.section_cut.specs.Late.{stair_to}
use Rattle.section_cut.proofs.late.stairways_to.Given as goal

-- the stairs so far
abbrev pub invariant-loop-run : goal.invariant-loop-run
invariant-loop-run l = l.all ≡ map (stair_to l.tables l.to_s l.lead) (take l.run l.tables.runs)
