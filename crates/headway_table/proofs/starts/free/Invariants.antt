use Rattle.std.proofs.Common.{◌≡◌}
use Rattle.std.specs.Prelude.{replicate}
use Rattle.headway_table.specs.declared.starts.TheConstants.{FREE}
use Rattle.headway_table.proofs.starts.free.Given as goal

abbrev pub invariant-loop : goal.invariant-loop
invariant-loop l = l.table.items ≡ replicate l.counter (replicate l.trains FREE)
