use Rattle.std.proofs.Common.{◌≡◌, ◌++◌, take, drop}
use Rattle.row_text.specs.Lines.{differences}
use Rattle.row_text.proofs.lists.take_differences.Given as goal

abbrev pub invariant-loop-i : goal.invariant-loop-i
invariant-loop-i l = take l.i l.times ++ differences l.before (drop l.i l.times) ≡ differences l.fn.start_s l.fn.times
