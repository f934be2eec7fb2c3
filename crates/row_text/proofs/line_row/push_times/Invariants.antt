use Rattle.std.proofs.Common.{◌≡◌, ◌++◌, map, take}
use Rattle.row_text.specs.Lines.{time_text}
use Rattle.row_text.proofs.line_row.push_times.Given as goal

abbrev pub invariant-loop-time : goal.invariant-loop-time
invariant-loop-time l = l.row ≡ l.initial.row ++ map (time_text l.version) (take l.time-index l.times)
