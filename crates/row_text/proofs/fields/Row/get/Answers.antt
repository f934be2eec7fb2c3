use Rattle.std.proofs.Common.{length, ap, arith}
use Rattle.row_text.proofs.Cuts.{length-fields_cut_at}
use Rattle.row_text.proofs.fields.Row.get.Goals as goal

pub field_at-requires-clause-at : goal.field_at-requires-clause-at
field_at-requires-clause-at c = omega (arith, c.requires, ap length c.self.view_is, length-fields_cut_at c.self.inside.bytes.now c.self.inside.cuts.now)
