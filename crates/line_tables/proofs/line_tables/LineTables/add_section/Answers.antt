use Rattle.std.proofs.Common.{ℕ, ap}
use Rattle.rail_model.specs.declared.items.Item.TheVariants as item
use Rattle.rail_model.proofs.Sound.{accepted}
use Rattle.line_tables.specs.declared.linked.Linked.{Linked}
use Rattle.line_tables.specs.Inside.{whole_tables, tables_of}
use Rattle.line_tables.proofs.References.{entry}
use Rattle.line_tables.proofs.Views.{map-with_item}
use Rattle.line_tables.proofs.Known.{section_knows}
use Rattle.line_tables.proofs.JoinedTrains.{section_is_new, section_put}
use Rattle.line_tables.proofs.line_tables.LineTables.add_section.Goals as goal

pub keys_of-requires : goal.keys_of-requires
keys_of-requires c =
    let t = whole_tables c.self.inside in
    let x = c.args.section in
    let none = rw (← c.self.view_is) at c.requires in
    rw c.slice.ensures (section_knows t x (accepted (tables_of t) (item.Section x) none).known)

pub put_linked-requires : goal.put_linked-requires
put_linked-requires c = section_is_new (whole_tables c.self.inside) c.args.section (rw (← c.self.view_is) at c.requires)

pub invariant_of-self-2 : goal.invariant_of-self-2
invariant_of-self-2 c =
    let done = c.in_ok-put_linked.ensures in
    rw done.put (section_put (whole_tables c.self.inside) c.in_ok-put_linked.field-0 c.args.section c.in_ok-refs.refs c.put_linked.new.uses c.self.invariant done.table (rw (← c.self.view_is) at c.requires) (rw c.slice.ensures at c.in_ok-refs.ensures.keys) done.counted)

pub returns-clause-put : goal.returns-clause-put
returns-clause-put c =
    let t = whole_tables c.self.inside in
    rw (← c.self.view_is, c.in_ok-put_linked.ensures.put)
    (ap (λ l. record (tables_of t) { sections = l }) (map-with_item (λ (e : ℕ × Linked _). e.1.item) (λ x. x.name) t.sections (c.in_ok-put_linked.field-0, entry c.args.section c.in_ok-refs.refs)))
