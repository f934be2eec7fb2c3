use Rattle.std.proofs.Common.{subst, sym}
use Rattle.headway_table.specs.Table.{IsSquare}
use Rattle.headway_table.proofs.Tables.{square}
use Rattle.headway_table.proofs.table.matrix.Goals as goal

pub invariant_of-result : goal.invariant_of-result
invariant_of-result g c =
    subst IsSquare (sym c.in_ok-rows_of.ensures) (square c.of-cut.result)
