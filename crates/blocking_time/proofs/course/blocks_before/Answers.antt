use Rattle.std.proofs.Common.{◌≡◌, ◌+◌, ◌≤◌, sym, subst, arith}
use Rattle.rail_model.specs.Blocking.{place}
use Rattle.blocking_time.proofs.Places.{blocks_before_is}
use Rattle.blocking_time.proofs.course.blocks_before.Goals as goal

pub returns-clause-count : goal.returns-clause-count
returns-clause-count c =
    let met : c.loop-low.high ≡ c.loop-low.low = omega (arith, c.loop-low.invariant.0) in
    let within : c.args.metres ≤ place c.args.path.now (c.loop-low.low + 1) = subst (λ j. c.args.metres ≤ place c.args.path.now (j + 1)) met c.loop-low.invariant.3 in
    sym (blocks_before_is c.args.path.now c.loop-low.low c.args.metres (omega (arith, c.loop-low.invariant.0, c.loop-low.invariant.1)) c.loop-low.invariant.2 within)
