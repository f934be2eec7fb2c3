use Rattle.std.proofs.Common.{◌<◌, length, ◌∙◌, sym, ap, Some, arith}
use Rattle.std.specs.Prelude.{option_map}
use Rattle.std.proofs.lemmas.List.{get_or_read}
use Rattle.std.proofs.lemmas.Option.{slice_get-get_or}
use Rattle.slab.specs.Slab.{get as slot}
use Rattle.line_tables.proofs.Filed.{length-filed, filed-at}
use Rattle.line_tables.proofs.Kept.{table_is}
use Rattle.line_tables.proofs.named_table.NamedTable.key_at.Goals as goal

pub index-requires : goal.index-requires
index-requires g c =
    let number = rw (← c.self.view_is) at c.requires in
    omega (arith, length-filed (slot c.self.inside.slots) c.self.inside.order.items c.self.invariant.stored)

pub returns-clause-key : goal.returns-clause-key
returns-clause-key g c =
    let at = slot c.self.inside.slots in
    let order = c.self.inside.order.items in
    let number = rw (← c.self.view_is) at c.requires in
    let within : c.args.number < length order = omega (arith, length-filed at order c.self.invariant.stored) in
    let here = filed-at at order c.args.number 0 c.self.invariant.stored within in
    rw (← c.self.view_is)
    (ap (option_map (λ (e : _). e.0)) (slice_get-get_or _ c.args.number (0, here.0) number ∙ ap Some (here.2 (0, here.0)))
    ∙ ap Some (sym (get_or_read order c.args.number _ within c.index.ensures 0)))

pub returns-clause-table : goal.returns-clause-table
returns-clause-table g c =
    rw (← c.self.view_is) (table_is g.T.Named.label (slot c.self.inside.slots) c.self.inside.order.items _ c.self.invariant)
