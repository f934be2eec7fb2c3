use Rattle.std.proofs.Common.{◌+◌, length, arith}
use Rattle.row_text.proofs.Cuts.{CutsIn-weaker}
use Rattle.row_text.proofs.fields.Fields.row.Goals as goal

pub invariant_of-result : goal.invariant_of-result
invariant_of-result c =
    let own = c.self.inside in
    rw (c.deref.ensures.value, c.deref-2.ensures.value) (CutsIn-weaker own.used (length own.bytes.items + 1) own.cuts.items (omega (arith, c.self.invariant.room)) c.self.invariant.lie)
