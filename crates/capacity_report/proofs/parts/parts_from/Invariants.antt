use Rattle.capacity_report.specs.Parts.{AreParts}
use Rattle.capacity_report.proofs.parts.parts_from.Given as goal

-- the parts so far
abbrev pub invariant-loop-i : goal.invariant-loop-i
invariant-loop-i l = AreParts l.count l.parts l.i l.all.items
