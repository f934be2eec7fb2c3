use Rattle.std.proofs.Common.{◌≡◌, get_or, None, subst, sym, ◌∙◌, ap}
use Rattle.std.specs.Prelude.{IfSome, OnSome}
use Rattle.std.specs.List.{remove}
use Rattle.std.proofs.lemmas.List.{get_or_read}
use Rattle.slab.specs.Slab.{get as slot}
use Rattle.line_tables.specs.Table.{filed, named, IsPositionOf}
use Rattle.rail_model.specs.Rules.{without}
use Rattle.line_tables.proofs.Kept.{Sets, StandsAt, stands_at, kept_by_drop, drop_is, item_is, table_is}
use Rattle.line_tables.proofs.named_table.NamedTable.take.Given.{Over}
use Rattle.line_tables.proofs.named_table.NamedTable.take.Goals as goal

place : (g : Over) (c : goal.After-remove-2 g) → IsPositionOf g.T.Named.label (slot c.self.inside.slots) c.self.inside.order.items c.args.name.now c.position_at-position.result
place g c = c.position_at-position.ensures

-- the key and the item that are taken out
key : (g : Over) (c : goal.After-remove-2 g) → c.unwrap-key.result ≡ get_or c.self.inside.order.items c.position_at-position.result 0
key g c =
    let order = c.self.inside.order.items in
    let i = c.position_at-position.result in
    let read = subst (λ k. IfSome k (λ y. y ≡ get_or order i y)) c.unwrap-key.ensures c.remove.ensures.value in
    get_or_read order i _ (place g c).within read 0

rest : (g : Over) (c : goal.After-remove-2 g) → c.remove.new.self.items ≡ remove c.self.inside.order.items c.position_at-position.result
rest g c = subst (λ k. OnSome k (c.remove.new.self.items ≡ remove c.self.inside.order.items c.position_at-position.result)) c.unwrap-key.ensures c.remove.ensures.items

stands : (g : Over) (c : goal.After-remove-2 g) → StandsAt (slot c.self.inside.slots) c.self.inside.order.items c.position_at-position.result c.unwrap-key.result (place g c).item
stands g c =
    let p = place g c in
    let at = slot c.self.inside.slots in
    let order = c.self.inside.order.items in
    let i = c.position_at-position.result in
    subst (λ k. StandsAt at order i k p.item) (sym (key g c)) (stands_at g.T.Named.label at order c.args.name.now i p)

sets : (g : Over) (c : goal.After-remove-2 g) → Sets (slot c.self.inside.slots) (slot c.remove-2.new.self) c.unwrap-key.result None
sets g c = let u = c.remove-2.ensures.updates in record { changed = u.changed; others = u.others }

pub invariant_of-self : goal.invariant_of-self
invariant_of-self g c =
    let label = g.T.Named.label in
    let s = c.self.inside in
    let p = place g c in
    rw (rest g c)
    (kept_by_drop label (slot s.slots) _ s.order.items _ _ c.position_at-position.result c.unwrap-key.result p.item c.self.invariant (sets g c) (stands g c)
    (λ n. rw p.label (c.swap_remove.ensures.updates.0 n)))

pub returns-clause-item : goal.returns-clause-item
returns-clause-item g c =
    let s = c.self.inside in
    let p = place g c in
    rw (← c.self.view_is)
    (item_is g.T.Named.label (slot s.slots) s.order.items c.args.name.now c.position_at-position.result p c.self.invariant.stored
    ∙ sym (stands g c).item ∙ c.remove-2.ensures.value)

pub returns-clause-rest : goal.returns-clause-rest
returns-clause-rest g c =
    let label = g.T.Named.label in
    let s = c.self.inside in
    let p = place g c in
    rw (← c.self.view_is, rest g c)
    (drop_is label (slot s.slots) _ s.order.items c.position_at-position.result c.unwrap-key.result p.item c.self.invariant.stored c.self.invariant.rise (sets g c) (stands g c)
    ∙ ap (without (named label) (filed (slot s.slots) s.order.items)) p.label)

pub returns-clause-table : goal.returns-clause-table
returns-clause-table g c =
    rw (← c.self.view_is) (table_is g.T.Named.label (slot c.self.inside.slots) c.self.inside.order.items _ c.self.invariant)
