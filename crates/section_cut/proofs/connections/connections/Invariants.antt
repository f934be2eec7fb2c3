use Rattle.std.proofs.Common.{◌≡◌, map, take}
use Rattle.std.specs.Prelude.{filter}
use Rattle.rail_model.specs.declared.items.Connection.{Connection}
use Rattle.plan_model.specs.Cut.{binds}
use Rattle.section_cut.specs.Bound.{with_connections}
use Rattle.section_cut.proofs.connections.connections.Given as goal

-- the names of the connections that bind so far, and the rows with them
abbrev pub invariant-loop-number : goal.invariant-loop-number
invariant-loop-number l =
    let some = filter (binds l.tables l.section) (take l.number l.tables.connections) in
    record {
      names : l.names ≡ map (λ (c : Connection). c.name) some;
      rows : l.rows ≡ map (with_connections l.tables l.section some) l.fn.rows;
    }
