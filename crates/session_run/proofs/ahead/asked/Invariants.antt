use Rattle.std.proofs.Common.{◌≡◌, ◌++◌, map}
use Rattle.std.specs.Vec.Iter.{into_iter_items}
use Rattle.session_run.proofs.ahead.asked.Given as goal

-- what stands there, and then what is left, are all readings
abbrev pub invariant-loop-reading : goal.invariant-loop-reading
invariant-loop-reading l = map (λ a. a.reading) l.all.items ++ into_iter_items l.reading-iterator ≡ l.fn.readings.items
