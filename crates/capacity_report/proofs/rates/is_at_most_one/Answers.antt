use Rattle.std.proofs.Common.{◌+◌, ◌*◌, arith}
use Rattle.capacity_report.proofs.Within.{within_is}
use Rattle.capacity_report.proofs.rates.is_at_most_one.Goals as goal

pub returns : goal.returns
returns c =
    rw (c.from.ensures, c.from-2.ensures, c.from-3.ensures)
    (within_is (c.args.occupancy * (100 + c.args.add_percent)) (100 * c.args.period_s) (omega (arith, c.requires)))
