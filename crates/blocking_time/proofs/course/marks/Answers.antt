use Rattle.std.proofs.Common.{◌≡◌, ◌+◌, ◌≤◌, ◌∙◌, ◌++◌, ◌∷◌, [], map, ap, sym, arith}
use Rattle.std.specs.List.{range_with_len}
use Rattle.std.proofs.lemmas.Grind.{common_steps}
use Rattle.std.proofs.lemmas.List.FromFn.{map-range_with_len_more}
use Rattle.rail_model.specs.Blocking.{hop_count}
use Rattle.blocking_time.specs.Mark.{mark_of}
use Rattle.blocking_time.proofs.Places.{mark_within}
use Rattle.blocking_time.proofs.course.marks.Goals as goal

pub next_mark-mark-requires : goal.next_mark-mark-requires
next_mark-mark-requires c =
    let on : c.loop-hop.hop-index ≤ hop_count c.args.path.now = grind arith in
    rw c.loop-hop.invariant.0 (mark_within c.args.path.now c.requires c.loop-hop.hop-index on)

pub loop-hop-preserved : goal.loop-hop-preserved
loop-hop-preserved c =
    let next : c.next_mark-mark.result ≡ mark_of c.args.path.now (c.loop-hop.hop-index + 1) = grind (arith, common_steps) in
    let more = map-range_with_len_more (mark_of c.args.path.now) 0 (c.loop-hop.hop-index + 1) (c.loop-hop.hop-index + 1) (omega arith) in
    let pushed = c.in_ok-push-2.ensures.items ∙ ap (λ l. l ++ c.next_mark-mark.result ∷ []) c.loop-hop.invariant.1 in
    (next, pushed ∙ ap (λ m. map (mark_of c.args.path.now) (range_with_len 0 (c.loop-hop.hop-index + 1)) ++ m ∷ []) next ∙ sym more)
