use Rattle.std.proofs.Common.{refl, arith}
use Rattle.csv.specs.Records.{last_end}
use Rattle.row_text.specs.Cuts.{CutsIn, fields_cut_at}
use Rattle.row_text.proofs.fields.Fields.new.Goals as goal

pub invariant_of-result : goal.invariant_of-result
unfolding CutsIn last_end
invariant_of-result c = rw (c.new.ensures.items, c.new-2.ensures.items) (record { lie = tt; last = refl; room = omega arith })

pub returns : goal.returns
unfolding fields_cut_at
returns c = rw (c.new-2.ensures.items) refl
