use Rattle.std.proofs.Common.{◌+◌, ap, inr, sym, arith}
use Rattle.blocking_time.specs.declared.motion.Mark.{Mark}
use Rattle.blocking_time.proofs.Places.{blocks_before_is}
use Rattle.blocking_time.proofs.course.blocks_to.Goals as goal

pub returns-then-metres-mark_in-clause-count : goal.returns-then-metres-mark_in-clause-count
returns-then-metres-mark_in-clause-count c =
    let next = ap (λ (m : Mark). m.place_m) c.mark_in.ensures.mark in
    sym (blocks_before_is c.args.path.now (c.args.k + c.loop-step.step) c.args.metres c.loop-step.invariant.on_path (inr c.loop-step.invariant.beyond) (omega (arith, next, c.if-metres-mark_in.true)))
