use Rattle.std.proofs.Common.{◌≡◌, ◌+◌, ◌≤◌, ap, refl, inl, inr, sym, subst, arith}
use Rattle.rail_model.specs.Blocking.{place}
use Rattle.blocking_time.specs.declared.motion.Mark.{Mark}
use Rattle.blocking_time.proofs.Places.{blocks_before_is}
use Rattle.blocking_time.proofs.course.blocks_back.Goals as goal

pub returns-then-mark_in-metres-clause-count : goal.returns-then-mark_in-metres-clause-count
returns-then-mark_in-metres-clause-count c =
    let here = ap (λ (m : Mark). m.place_m) c.mark_in.ensures.mark in
    sym (blocks_before_is c.args.path.now c.loop.last c.args.metres c.loop.invariant.on_path (inr (omega (arith, here, c.if-mark_in-metres.true))) c.loop.invariant.within)

pub returns-then-last-eq0-clause-count : goal.returns-then-last-eq0-clause-count
returns-then-last-eq0-clause-count c =
    let none : c.loop.last ≡ 0 = omega arith in
    let within : c.args.metres ≤ place c.args.path.now (0 + 1) = subst (λ j. c.args.metres ≤ place c.args.path.now (j + 1)) none c.loop.invariant.within in
    sym (blocks_before_is c.args.path.now 0 c.args.metres (omega (arith, c.loop.invariant.on_path)) (inl refl) within)
