use Rattle.std.proofs.Common.{◌≡◌, ◌∙◌, ap, Some, rules, nat_eq}
use Rattle.std.specs.Prelude.{is_some}
use Rattle.std.specs.Cmp.Lexicographic.{pointwise}
use Rattle.indexmap.specs.IndexMap.{get}
use Rattle.slab.specs.Slab.{get as slot}
use Rattle.line_tables.specs.Table.{filed}
use Rattle.line_tables.proofs.Entries.{is_some-key_of}
use Rattle.line_tables.proofs.named_table.NamedTable.key_near.Goals as goal

pub returns-in_err-position-clause-there : goal.returns-in_err-position-clause-there
returns-in_err-position-clause-there g c =
    let found : c.from_residual.result ≡ get (pointwise nat_eq) c.self.inside.by_name c.args.name.now = search rules in
    rw (← c.self.view_is)
    (ap is_some (found ∙ c.self.invariant.found c.args.name.now)
    ∙ is_some-key_of g.T.Named.label (filed (slot c.self.inside.slots) c.self.inside.order.items) c.args.name.now)

pub returns-clause-there : goal.returns-clause-there
returns-clause-there g c =
    let found : Some c.in_ok-position.key ≡ get (pointwise nat_eq) c.self.inside.by_name c.args.name.now = search rules in
    rw (← c.self.view_is)
    (ap is_some (found ∙ c.self.invariant.found c.args.name.now)
    ∙ is_some-key_of g.T.Named.label (filed (slot c.self.inside.slots) c.self.inside.order.items) c.args.name.now)
