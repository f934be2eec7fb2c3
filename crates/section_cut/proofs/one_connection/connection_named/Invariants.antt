use Rattle.std.proofs.Common.{◌≡◌, ℕ, ◌<◌, false, get_or}
use Rattle.rail_model.specs.declared.items.Connection.{Connection}
use Rattle.rail_model.specs.Name.{is_same}
use Rattle.section_cut.proofs.one_connection.connection_named.Given as goal

-- those so far have other names
abbrev pub invariant-loop-number : goal.invariant-loop-number
invariant-loop-number l = (k : ℕ) (d : Connection) → k < l.number → is_same (get_or l.tables.connections k d).name l.name ≡ false
