use Rattle.std.proofs.Common.{take}
use Rattle.std.specs.Prelude.{fold}
use Rattle.headway_table.specs.Starts.{Changes, with_use_start}
use Rattle.headway_table.proofs.starts.put_train.Given as goal

-- the starts of the first uses are put in
abbrev pub invariant-loop-one : goal.invariant-loop-one
invariant-loop-one l =
    Changes l.fn.j (λ p c. fold (with_use_start l.row.entry p) c (take l.one-index l.row.uses)) l.initial.table l.table
