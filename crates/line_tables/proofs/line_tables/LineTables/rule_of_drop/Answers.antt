use Rattle.std.proofs.Common.{sym, ◌∙◌}
use Rattle.line_tables.specs.Inside.{whole_tables}
use Rattle.line_tables.proofs.KeptLine.{kept_table, kept_key}
use Rattle.line_tables.proofs.InUse.{block_dropped, signal_dropped, route_dropped, run_dropped}
use Rattle.line_tables.proofs.line_tables.LineTables.rule_of_drop.Goals as goal

pub returns-in-Block : goal.returns-in-Block
returns-in-Block c =
    let found = c.key_of.ensures in
    rw (← c.self.view_is, c.in-Block.is) (c.rule_of_key.ensures ∙ block_dropped (whole_tables c.self.inside) c.args.name.now _ c.self.invariant found.table found.key)

pub returns-in-Signal : goal.returns-in-Signal
returns-in-Signal c =
    let found = c.key_of-in-Signal.ensures in
    rw (← c.self.view_is, c.in-Signal.is) (c.rule_of_key-in-Signal.ensures ∙ signal_dropped (whole_tables c.self.inside) c.args.name.now _ c.self.invariant found.table found.key)

pub returns-in-Route : goal.returns-in-Route
returns-in-Route c =
    let found = c.key_of-in-Route.ensures in
    rw (← c.self.view_is, c.in-Route.is) (c.rule_of_key-in-Route.ensures ∙ route_dropped (whole_tables c.self.inside) c.args.name.now _ c.self.invariant (kept_table c.self.inside found.table) (found.key ∙ sym (kept_key c.self.inside c.args.name.now)))

pub returns-in-Run : goal.returns-in-Run
returns-in-Run c =
    let found = c.key_of-in-Run.ensures in
    rw (← c.self.view_is, c.in-Run.is) (c.rule_of_key-in-Run.ensures ∙ run_dropped (whole_tables c.self.inside) c.args.name.now _ c.self.invariant found.table found.key)
