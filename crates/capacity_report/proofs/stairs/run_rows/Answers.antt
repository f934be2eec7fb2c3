use Rattle.std.proofs.Common.{refl}
use Rattle.row_text.proofs.Adds.{adds_stopped, adds_none}
use Rattle.capacity_report.proofs.Rows.{blockings_there}
use Rattle.capacity_report.proofs.stairs.run_rows.Goals as goal

pub blocking_rows-requires : goal.blocking_rows-requires
blocking_rows-requires c =
    rw c.slice.ensures (blockings_there _ c.args.path.now c.in_ok-all.all c.in_ok-all.ensures.each c.requires.there)

pub returns-in_err-head : goal.returns-in_err-head
returns-in_err-head c = adds_stopped _ c.from_residual.result c.from_residual.ensures.1 (adds_none _ refl)

pub returns-in_err-all : goal.returns-in_err-all
returns-in_err-all c = adds_stopped _ c.from_residual-in_err-all.result c.from_residual-in_err-all.ensures.1 (adds_none _ refl)

pub returns : goal.returns
returns c =
    rw (c.slice.ensures, c.in_ok-all.ensures.each, c.in_ok-head.ensures) at c.blocking_rows.ensures
