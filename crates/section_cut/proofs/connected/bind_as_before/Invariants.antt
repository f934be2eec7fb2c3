use Rattle.std.proofs.Common.{◌≡◌, ℕ, ◌<◌, get_or}
use Rattle.rail_model.specs.declared.items.Connection.{Connection}
use Rattle.rail_model.specs.Rules.{is_named}
use Rattle.plan_model.specs.Cut.{binds}
use Rattle.section_cut.proofs.connected.bind_as_before.Given as goal

-- each so far
abbrev pub invariant-loop-connection : goal.invariant-loop-connection
invariant-loop-connection l =
    (k : ℕ) (d : Connection) → k < l.connection-index
    → binds l.tables l.old.section (get_or l.joined k d) ≡ is_named (λ n. n) l.old.connections (get_or l.joined k d).name
