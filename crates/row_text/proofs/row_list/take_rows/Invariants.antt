use Rattle.row_text.specs.Rows.{IsReading}
use Rattle.row_text.proofs.row_list.take_rows.Given as goal

abbrev pub invariant-loop : goal.invariant-loop
invariant-loop l = IsReading l.taken l.reader l.text
