use Rattle.std.proofs.Common.{sym, subst}
use Rattle.rail_model.specs.Conflict.{IsTimetable}
use Rattle.capacity_report.proofs.Timetables.{timetable_fits}
use Rattle.capacity_report.proofs.timetable.stairways.Goals as goal

pub returns-clause-fits : goal.returns-clause-fits
returns-clause-fits g c =
    subst IsTimetable (sym c.in_ok-all.ensures) (timetable_fits c.args.tables.now c.learn_sound.ensures)
