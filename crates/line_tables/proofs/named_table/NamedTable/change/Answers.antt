use Rattle.std.proofs.Common.{◌∙◌, sym, ap, Some, refl}
use Rattle.std.specs.Prelude.{IsSome}
use Rattle.slab.specs.Slab.{get as slot, with_value}
use Rattle.slab.proofs.SlabLemmas.{Updates-with_value}
use Rattle.line_tables.proofs.Kept.{Sets, old_item, kept_by_change, change_is, table_is}
use Rattle.line_tables.proofs.named_table.NamedTable.change.Given.{Over}
use Rattle.line_tables.proofs.named_table.NamedTable.change.Goals as goal

pub index_mut-requires : goal.index_mut-requires
index_mut-requires g c =
    let s = c.self.inside in
    let old = old_item g.T.Named.label (slot s.slots) s.order.items c.args.key _ c.self.invariant.stored (rw (← c.self.view_is) at c.requires) in
    rw old.1 refl

-- the slots after the write
sets : (g : Over) (c : goal.After-self-1 g) → Sets (slot c.self.inside.slots) (slot (with_value c.self.inside.slots c.args.key c.replace.new.dest)) c.args.key (Some c.args.item)
sets g c =
    let s = c.self.inside in
    let there : IsSome (slot s.slots c.args.key) = rw c.index_mut.ensures.value refl in
    let u = Updates-with_value s.slots c.args.key c.replace.new.dest there in
    record { changed = u.changed ∙ ap Some c.replace.ensures.after; others = u.others }

pub invariant_of-self : goal.invariant_of-self
invariant_of-self g c =
    let s = c.self.inside in
    let old = old_item g.T.Named.label (slot s.slots) s.order.items c.args.key _ c.self.invariant.stored (rw (← c.self.view_is) at c.requires) in
    kept_by_change g.T.Named.label (slot s.slots) _ s.order.items _ c.args.key old.0 c.args.item c.self.invariant (sets g c) old.1 old.2

pub returns-clause-old : goal.returns-clause-old
returns-clause-old g c =
    let s = c.self.inside in
    let old = old_item g.T.Named.label (slot s.slots) s.order.items c.args.key _ c.self.invariant.stored (rw (← c.self.view_is) at c.requires) in
    rw (← c.self.view_is) (old.3 ∙ sym old.1 ∙ c.index_mut.ensures.value ∙ ap Some (sym c.replace.ensures.value))

pub returns-clause-changed : goal.returns-clause-changed
returns-clause-changed g c =
    let s = c.self.inside in
    rw (← c.self.view_is) (change_is g.T.Named.label (slot s.slots) _ s.order.items c.args.key c.args.item c.self.invariant.stored (sets g c))

pub returns-clause-table : goal.returns-clause-table
returns-clause-table g c =
    rw (← c.self.view_is) (table_is g.T.Named.label (slot c.self.inside.slots) c.self.inside.order.items _ c.self.invariant)
