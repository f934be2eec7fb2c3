use Rattle.std.proofs.Common.{◌≡◌, take}
use Rattle.row_text.proofs.fields.Row.to_fields.Given as goal

abbrev pub invariant-loop-i : goal.invariant-loop-i
invariant-loop-i l = l.fields ≡ take l.i l.self
