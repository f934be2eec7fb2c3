use Rattle.std.proofs.Common.{◌≡◌, ◌++◌, map}
use Rattle.made_line.specs.Base.{first_signals, put_signal}
use Rattle.made_line.proofs.base.put_signals.Given as goal

abbrev pub invariant-loop-i : goal.invariant-loop-i
invariant-loop-i l = l.edits ≡ l.fn.edits ++ map put_signal (first_signals l.i)
