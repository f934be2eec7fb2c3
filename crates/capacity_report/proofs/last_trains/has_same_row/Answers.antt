use Rattle.std.proofs.Common.{◌≡◌, sym, ◌∙◌, arith}
use Rattle.std.proofs.lemmas.Int.{ints}
use Rattle.capacity_report.proofs.LastTrains.{same_row}
use Rattle.capacity_report.proofs.last_trains.has_same_row.Goals as goal

pub returns : goal.returns
returns c is =
    let planned : c.planned.result ≡ c.planned-2.result = omega (arith, ints) in
    let entry : c.entry.result ≡ c.entry-2.result = omega (arith, ints) in
    same_row c.args.plan.now c.args.last.now c.requires.alike c.args.i
    (sym c.planned.ensures ∙ planned ∙ c.planned-2.ensures)
    (sym c.entry.ensures ∙ entry ∙ c.entry-2.ensures)
    (sym c.tie.ensures ∙ c.is_same_tie.ensures is ∙ c.tie-2.ensures)
