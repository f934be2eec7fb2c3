use Rattle.std.proofs.Common.{ℕ, ◌<◌, get_or}
use Rattle.rail_model.specs.declared.items.Connection.{Connection}
use Rattle.section_cut.specs.EditedConnection.{IsOfSameRuns}
use Rattle.section_cut.proofs.one_connection.keeps_runs.Given as goal

-- those so far
abbrev pub invariant-loop-number : goal.invariant-loop-number
invariant-loop-number l = (k : ℕ) (d : Connection) → k < l.number → IsOfSameRuns l.connection (get_or l.tables.connections k d)
