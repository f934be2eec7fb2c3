use Rattle.std.proofs.Common.{length}
use Rattle.headway_table.specs.Starts.{AreStartsOf}
use Rattle.headway_table.proofs.starts.put_all.Given as goal

-- the starts of the first trains are put in
abbrev pub invariant-loop-j : goal.invariant-loop-j
invariant-loop-j l = AreStartsOf (length l.initial.table) l.rows l.j l.table
