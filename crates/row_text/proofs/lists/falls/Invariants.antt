use Rattle.std.proofs.Common.{◌≡◌, drop}
use Rattle.row_text.specs.Lines.{falls}
use Rattle.row_text.proofs.lists.falls.Given as goal

abbrev pub invariant-loop-time : goal.invariant-loop-time
invariant-loop-time l = falls l.before (drop l.time-index l.times) ≡ falls l.fn.start_s l.times
