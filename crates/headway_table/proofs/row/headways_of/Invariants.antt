use Rattle.std.proofs.Common.{◌≡◌}
use Rattle.headway_table.specs.Numbers.{headways_of}
use Rattle.headway_table.proofs.row.headways_of.Given as goal

-- the headways to the first trains
abbrev pub invariant-loop-j : goal.invariant-loop-j
invariant-loop-j l = l.row ≡ headways_of l.greatest l.i l.j
