use Rattle.std.proofs.Common.{◌<◌, ◌≤◌, ◌+◌, inl, refl, arith, sym}
use Rattle.rail_model.specs.Blocking.{hop_count, place}
use Rattle.blocking_time.proofs.Places.{blocks_before_is, mark_within, place_more}
use Rattle.blocking_time.proofs.motion.blocks_before.Goals as goal

pub loop-k-init : goal.loop-k-init
loop-k-init c = (c.first_mark-mark.ensures, inl refl)

pub next_mark-mark-requires : goal.next_mark-mark-requires
next_mark-mark-requires c =
    let on : c.loop-k.k ≤ hop_count c.args.path.now = grind arith in
    rw c.loop-k.invariant.0 (mark_within c.args.path.now c.requires.fits c.loop-k.k on)

pub returns-then-metres-mark-clause-count : goal.returns-then-metres-mark-clause-count
returns-then-metres-mark-clause-count c =
    let on : c.loop-k.k < hop_count c.args.path.now = grind arith in
    let more = place_more c.args.path.now c.loop-k.k on in
    let within : c.args.metres ≤ place c.args.path.now (c.loop-k.k + 1) = grind arith in
    sym (blocks_before_is c.args.path.now c.loop-k.k c.args.metres on c.loop-k.invariant.1 within)
