use Rattle.std.proofs.Common.{◌≡◌, ◌-◌, sym, subst, arith}
use Rattle.rail_model.specs.Blocking.{hop}
use Rattle.blocking_time.specs.Mark.{IsMarkWithin}
use Rattle.blocking_time.proofs.Stops.{approach_by, stop_mark_within}
use Rattle.blocking_time.proofs.course.approach_seconds.Goals as goal

pub returns-clause-moment : goal.returns-clause-moment
returns-clause-moment c =
    let approach : c.from.result ≡ (hop c.args.path.now c.args.k).approach_m = grind arith in
    approach_by c.args.path.now c.args.k c.requires.on_path _ _ _ _ _ _ c.after_stop.ensures c.saturating_sub-point_m.ensures c.seconds_down_at-reached_s.ensures.moment c.mark_in-entry.ensures.mark c.requires.stop approach

pub returns-clause-bounded : goal.returns-clause-bounded
returns-clause-bounded c =
    let within = stop_mark_within c.args.path.now c.requires.fits (c.args.k - 1) (omega (arith, c.requires.on_path)) in
    let stop = subst IsMarkWithin (sym c.requires.stop) within in
    grind arith
