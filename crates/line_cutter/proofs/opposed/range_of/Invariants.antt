use Rattle.std.proofs.Common.{take}
use Rattle.line_cutter.specs.Opposed.{IsStartRange}
use Rattle.line_cutter.proofs.opposed.range_of.Given as goal

abbrev pub invariant-loop-one : goal.invariant-loop-one
invariant-loop-one l = IsStartRange (take l.one-index l.uses) l.range
