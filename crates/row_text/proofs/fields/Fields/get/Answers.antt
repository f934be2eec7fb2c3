use Rattle.std.proofs.Common.{◌+◌, length, arith, ap}
use Rattle.row_text.proofs.Cuts.{length-fields_cut_at, CutsIn-weaker}
use Rattle.row_text.proofs.fields.Fields.get.Goals as goal

pub field_at-requires-clause-at : goal.field_at-requires-clause-at
field_at-requires-clause-at c =
    omega (arith, c.requires, ap length c.self.view_is, length-fields_cut_at c.self.inside.bytes.items c.self.inside.cuts.items, ap length c.deref-2.ensures.value)

pub field_at-requires-clause-within : goal.field_at-requires-clause-within
field_at-requires-clause-within c =
    let own = c.self.inside in
    rw (c.deref.ensures.value, c.deref-2.ensures.value) (CutsIn-weaker own.used (length own.bytes.items + 1) own.cuts.items (omega (arith, c.self.invariant.room)) c.self.invariant.lie)
