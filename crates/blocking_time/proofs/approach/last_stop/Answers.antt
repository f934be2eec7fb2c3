use Rattle.std.proofs.Common.{◌≤◌, ◌≡◌, arith}
use Rattle.std.proofs.lemmas.Grind.{common_steps}
use Rattle.rail_model.specs.Blocking.{hop_count}
use Rattle.blocking_time.proofs.Places.{mark_within}
use Rattle.blocking_time.proofs.Stops.{stop_more, stop_mark_within}
use Rattle.blocking_time.proofs.approach.last_stop.Goals as goal

pub next_mark-mark-requires : goal.next_mark-mark-requires
next_mark-mark-requires c =
    let on : c.loop-hop.hop-index ≤ hop_count c.args.path.now = grind (arith, common_steps) in
    rw c.loop-hop.invariant.0 (mark_within c.args.path.now c.requires.fits c.loop-hop.hop-index on)

pub loop-hop-preserved : goal.loop-hop-preserved
loop-hop-preserved c =
    let more = stop_more c.args.path.now c.loop-hop.hop-index in
    (grind (arith, common_steps), grind (arith, common_steps))

pub returns-clause-bounded : goal.returns-clause-bounded
returns-clause-bounded c =
    let end : c.loop-hop.hop-index ≡ c.args.k = grind (arith, common_steps) in
    rw (c.loop-hop.invariant.1, end) (stop_mark_within c.args.path.now c.requires.fits c.args.k c.requires.on_path)
