use Rattle.std.proofs.Common.{◌≡◌, get_or, map, take}
use Rattle.line_tables.specs.KeySet.{holds}
use Rattle.line_tables.proofs.passing.runs_on.Given as goal

-- the runs so far
abbrev pub invariant-loop-number : goal.invariant-loop-number
invariant-loop-number l = l.all.items ≡ map (λ u. holds l.routes (get_or u.1.refs 0 0)) (take l.number l.runs)
