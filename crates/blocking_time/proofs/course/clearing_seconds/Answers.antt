use Rattle.std.proofs.Common.{◌∙◌, ap, arith}
use Rattle.rail_model.specs.declared.path.Hop.{Hop}
use Rattle.blocking_time.specs.Mark.{mark_of}
use Rattle.blocking_time.proofs.Clearing.{clearing_reached, clearing_ended}
use Rattle.blocking_time.proofs.course.clearing_seconds.Goals as goal

pub returns-then-place_m-last-clause-moment : goal.returns-then-place_m-last-clause-moment
returns-then-place_m-last-clause-moment c =
    let path = c.args.path.now in
    c.seconds_at.ensures.moment
    ∙ clearing_reached path c.args.k c.clearing_place-place_m.result c.mark_in-mark.result c.mark_in-last.result c.args.hop.now.overlap_m
    c.mark_in-mark.ensures.mark (c.mark_in-last.ensures.mark ∙ ap (mark_of path) c.len.ensures.count)
    (ap (λ (h : Hop). h.overlap_m) c.requires.hop) c.clearing_place-place_m.ensures (omega (arith, c.if-place_m-last.true))

pub returns-else-place_m-last-clause-moment : goal.returns-else-place_m-last-clause-moment
returns-else-place_m-last-clause-moment c =
    let path = c.args.path.now in
    c.tail_end.ensures.moment
    ∙ clearing_ended path c.requires.fits c.args.k c.clearing_place-place_m.result c.mark_in-mark.result c.mark_in-last.result c.args.hop.now.overlap_m
    c.mark_in-mark.ensures.mark (c.mark_in-last.ensures.mark ∙ ap (mark_of path) c.len.ensures.count)
    (ap (λ (h : Hop). h.overlap_m) c.requires.hop) c.clearing_place-place_m.ensures (omega (arith, c.if-place_m-last.false))
