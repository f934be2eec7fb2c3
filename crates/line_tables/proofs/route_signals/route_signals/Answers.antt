use Rattle.rail_model.specs.declared.items.Signal.{Signal}
use Rattle.line_tables.specs.declared.linked.Linked.{Linked}
use Rattle.line_tables.proofs.Meets.{all_keys}
use Rattle.line_tables.proofs.route_signals.route_signals.Goals as goal

pub blocks_of-requires-clause-there : goal.blocks_of-requires-clause-there
blocks_of-requires-clause-there c =
    rw c.slice-2.ensures
    (all_keys (λ (e : Linked Signal). e.item.name) c.args.signals.now c.in_ok-keys.ensures.table c.args.names.now c.in-Some.keys (rw (c.slice.ensures, c.in-Some.is) at c.in_ok-keys.ensures.keys))

pub returns-clause-found : goal.returns-clause-found
returns-clause-found c = record {
  keyed = rw (c.slice.ensures, c.in-Some.is) at c.in_ok-keys.ensures.keys;
  blocks = rw c.slice-2.ensures at c.in_ok-blocks.ensures;
  twice = rw c.slice-3.ensures at c.in_ok-twice.ensures;
}
