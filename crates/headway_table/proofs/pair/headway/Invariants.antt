use Rattle.std.proofs.Common.{◌≡◌, take}
use Rattle.std.specs.Prelude.{None, fold}
use Rattle.headway_table.specs.Walk.{end_in, with_use}
use Rattle.headway_table.proofs.pair.headway.Given as goal

-- the greatest of the first uses
abbrev pub invariant-loop-one : goal.invariant-loop-one
invariant-loop-one l = l.greatest ≡ fold (with_use (end_in l.a) l.b.entry) None (take l.one-index l.b.uses)
