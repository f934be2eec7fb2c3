use Rattle.std.proofs.Common.{◌≡◌, length, take}
use Rattle.section_cut.specs.Positions.{uses_in}
use Rattle.section_cut.proofs.positions.gather.Given as goal

-- the uses so far
abbrev pub invariant-loop-one : goal.invariant-loop-one
invariant-loop-one l = l.found.items ≡ uses_in l.table.positions.now (length l.table.section.now.blocks) (take l.one-index l.uses)
