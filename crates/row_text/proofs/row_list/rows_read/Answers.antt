use Rattle.row_text.proofs.Taken.{RowsIn-taken}
use Rattle.row_text.proofs.row_list.rows_read.Goals as goal

pub invariant_of-result : goal.invariant_of-result
invariant_of-result c = RowsIn-taken c.take_text.new.taken _ c.in_ok-take_text.ensures

pub returns : goal.returns
returns c = c.in_ok-take_text.ensures.rows
