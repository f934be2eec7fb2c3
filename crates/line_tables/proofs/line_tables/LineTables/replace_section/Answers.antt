use Rattle.std.proofs.Common.{◌==◌, ap, sym, ◌∙◌, arith}
use Rattle.rail_model.specs.declared.items.Item.TheVariants as item
use Rattle.rail_model.proofs.Sound.{changeable}
use Rattle.line_tables.specs.declared.linked.Linked.{Linked}
use Rattle.line_tables.specs.Inside.{whole_tables, tables_of}
use Rattle.line_tables.proofs.Found.{name_under}
use Rattle.line_tables.proofs.References.{entry}
use Rattle.line_tables.proofs.Views.{map-with_change}
use Rattle.line_tables.proofs.Known.{refs_of_found, section_knows}
use Rattle.line_tables.proofs.JoinedTrains.{section_stays, section_change}
use Rattle.line_tables.proofs.line_tables.LineTables.replace_section.Goals as goal

pub keys_of-requires : goal.keys_of-requires
keys_of-requires c =
    let t = whole_tables c.self.inside in
    let x = c.args.section in
    let none = rw (← c.self.view_is) at c.requires in
    rw c.slice.ensures (section_knows t x (changeable (tables_of t) (item.Section x) none).known)

pub unwrap-key-requires : goal.unwrap-key-requires
unwrap-key-requires c = c.key_of.ensures.there ∙ section_stays (whole_tables c.self.inside) c.args.section (rw (← c.self.view_is) at c.requires)

pub change_linked-requires-clause-same_name : goal.change_linked-requires-clause-same_name
change_linked-requires-clause-same_name c =
    name_under (λ (e : Linked _). e.item.name) c.self.inside.sections c.args.section.name c.unwrap-key.result c.key_of.ensures.table (sym c.key_of.ensures.key ∙ c.unwrap-key.ensures)

pub change_linked-requires-clause-counted_before : goal.change_linked-requires-clause-counted_before
change_linked-requires-clause-counted_before c e k h =
    let t = whole_tables c.self.inside in
    let key = c.unwrap-key.result in
    omega (arith, c.self.invariant.block_uses k, refs_of_found (λ u. u.0 == key) t.sections e k h)

pub invariant_of-self-2 : goal.invariant_of-self-2
invariant_of-self-2 c =
    let done = c.in_ok-change_linked.ensures in
    let same = name_under (λ (e : Linked _). e.item.name) c.self.inside.sections c.args.section.name c.unwrap-key.result c.key_of.ensures.table (sym c.key_of.ensures.key ∙ c.unwrap-key.ensures) in
    rw done.changed (section_change (whole_tables c.self.inside) c.unwrap-key.result c.args.section c.in_ok-refs.refs c.change_linked.new.uses c.self.invariant c.key_of.ensures.table same (rw (← c.self.view_is) at c.requires) (rw c.slice.ensures at c.in_ok-refs.ensures.keys) done.counted)

pub returns-clause-changed : goal.returns-clause-changed
returns-clause-changed c =
    let t = whole_tables c.self.inside in
    let key = c.unwrap-key.result in
    let same = name_under (λ (e : Linked _). e.item.name) t.sections c.args.section.name key c.key_of.ensures.table (sym c.key_of.ensures.key ∙ c.unwrap-key.ensures) in
    rw (← c.self.view_is, c.in_ok-change_linked.ensures.changed)
    (ap (λ l. record (tables_of t) { sections = l }) (map-with_change (λ (e : Linked _). e.item) (λ x. x.name) t.sections key (entry c.args.section c.in_ok-refs.refs) c.key_of.ensures.table same))
