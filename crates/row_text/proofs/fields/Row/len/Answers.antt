use Rattle.std.proofs.Common.{length, ap, arith}
use Rattle.row_text.proofs.Cuts.{length-fields_cut_at}
use Rattle.row_text.proofs.fields.Row.len.Goals as goal

pub returns : goal.returns
returns c = omega (arith, ap length c.self.view_is, length-fields_cut_at c.self.inside.bytes.now c.self.inside.cuts.now)
