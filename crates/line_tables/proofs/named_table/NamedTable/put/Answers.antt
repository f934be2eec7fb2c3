use Rattle.std.proofs.Common.{◌≡◌, ℕ, Some, None, insert, subst, sym, ◌∙◌, refl}
use Rattle.std.specs.Prelude.{OnOk}
use Rattle.slab.specs.Slab.{get as slot, Updates}
use Rattle.line_tables.specs.Table.{IsPositionFor}
use Rattle.line_tables.proofs.Filed.{under_vacant}
use Rattle.line_tables.proofs.Kept.{Sets, place_is, kept_by_put, kept_by_copy, put_is, there_by_put, table_is}
use Rattle.line_tables.proofs.named_table.NamedTable.put.Given.{Over}
use Rattle.line_tables.proofs.named_table.NamedTable.put.Goals as goal

place : (g : Over) (c : goal.After-unwrap g) → IsPositionFor g.T.Named.label (slot c.self.inside.slots) c.self.inside.order.items (g.T.Named.label c.args.item) c.position_for-position.result
place g c = rw c.name.ensures at c.position_for-position.ensures

-- room alone changes nothing that stands under a key
same : (g : Over) (c : goal.After-unwrap g) (k : ℕ) → slot c.reserve.new.self k ≡ slot c.self.inside.slots k
same g c k = rw c.reserve.ensures.rest_kept refl

sets : (g : Over) (c : goal.After-unwrap g) → Sets (slot c.self.inside.slots) (slot c.insert_reserved.new.self) c.vacant_key-key.result (Some c.args.item)
sets g c =
    let e = c.insert_reserved.ensures.key ∙ sym c.vacant_key-key.ensures.value in
    let u = subst (λ k. Updates c.reserve.new.self c.insert_reserved.new.self k (Some c.args.item)) e c.insert_reserved.ensures.updates in
    record { changed = u.changed; others = λ q ne. u.others q ne ∙ same g c q }

vacant : (g : Over) (c : goal.After-unwrap g) → slot c.self.inside.slots c.vacant_key-key.result ≡ None
vacant g c = sym (same g c c.vacant_key-key.result) ∙ c.vacant_key-key.ensures.vacant

order : (g : Over) (c : goal.After-unwrap g) → c.insert-2.new.self.items ≡ insert c.self.inside.order.items c.position_for-position.result c.vacant_key-key.result
order g c =
    let put = subst (λ r. OnOk r (c.insert-2.new.self.items ≡ insert c.reserve-2.new.self.items c.position_for-position.result c.vacant_key-key.result)) c.unwrap.ensures c.insert-2.ensures.items in
    put ∙ rw (c.reserve-2.ensures.items) refl

pub invariant_of-self-in_err-insert : goal.invariant_of-self-in_err-insert
invariant_of-self-in_err-insert g c =
    let s = c.self.inside in
    kept_by_copy g.T.Named.label (slot s.slots) _ s.order.items _ _ _ c.self.invariant (λ k. rw c.reserve.ensures.rest_kept refl) c.reserve-2.ensures.items (λ n. rw c.in_err-insert.ensures.err refl)

pub invariant_of-self-2 : goal.invariant_of-self-2
invariant_of-self-2 g c =
    let label = g.T.Named.label in
    let s = c.self.inside in
    rw (order g c)
    (kept_by_put label (slot s.slots) _ s.order.items _ _ c.vacant_key-key.result c.args.item c.position_for-position.result c.self.invariant (sets g c) (vacant g c)
    (place_is label (slot s.slots) s.order.items (label c.args.item) c.position_for-position.result (place g c))
    (λ n. rw (← c.name-2.ensures) (c.in_ok-insert.ensures.updates.0 n)))

pub returns-clause-put : goal.returns-clause-put
returns-clause-put g c =
    let label = g.T.Named.label in
    let s = c.self.inside in
    rw (← c.self.view_is, order g c)
    (put_is label (slot s.slots) _ s.order.items c.vacant_key-key.result c.args.item c.position_for-position.result c.self.invariant.stored (sets g c) (vacant g c)
    (place_is label (slot s.slots) s.order.items (label c.args.item) c.position_for-position.result (place g c)))

pub returns-clause-fresh : goal.returns-clause-fresh
returns-clause-fresh g c =
    rw (← c.self.view_is) (under_vacant (slot c.self.inside.slots) c.self.inside.order.items c.vacant_key-key.result c.self.invariant.stored (vacant g c))

pub returns-clause-there : goal.returns-clause-there
returns-clause-there g c =
    let s = c.self.inside in
    rw (order g c)
    (there_by_put g.T.Named.label (slot s.slots) (slot c.insert_reserved.new.self) s.order.items c.vacant_key-key.result c.args.item c.position_for-position.result c.self.invariant.stored (sets g c) (vacant g c) (place g c).within)

pub returns-clause-table : goal.returns-clause-table
returns-clause-table g c =
    rw (← c.self.view_is) (table_is g.T.Named.label (slot c.self.inside.slots) c.self.inside.order.items _ c.self.invariant)
