use Rattle.std.proofs.Common.{◌<◌, [], ◌∷◌, ℕ, List, length, inl, inr, sym, ap, ◌∙◌, arith, length-append}
use Rattle.std.specs.Prelude.{None, Option, slice_index_or}
use Rattle.std.proofs.lemmas.Bool.{cases_eq}
use Rattle.std.proofs.lemmas.List.{get_or_append_left, get_or_push}
use Rattle.occupancy_rate.specs.declared.spans.Span.{Span}
use Rattle.train_net.specs.Reading.{span_by}
use Rattle.train_net.proofs.ends.spans.Goals as goal

pub loop-block-preserved : goal.loop-block-preserved
loop-block-preserved c =
    let b = c.loop-block.block in
    let before = c.loop-block.spans.items in
    let x = c.span_of.result in
    let items = c.in_ok-push.ensures.items in
    let F : ℕ → Option Span = λ i. span_by c.args.cut.now c.args.entries.now (slice_index_or c.args.first.now i None) (slice_index_or c.args.last.now i None) in
    record {
      count = omega (arith, ap length items, length-append before (x ∷ []), c.loop-block.invariant.count);
      each = λ i l.
          elim (cases_eq i b) [
            | inl e ↦
                ap (λ (ss : List (Option Span)). slice_index_or ss i None) items
                ∙ get_or_push before x None i (omega (arith, e, c.loop-block.invariant.count)) ∙ c.span_of.ensures ∙ ap F (sym e)
            | inr differ ↦
                let lt : i < b = omega (arith, l, differ) in
                ap (λ (ss : List (Option Span)). slice_index_or ss i None) items
                ∙ get_or_append_left before (x ∷ []) None i (omega (arith, lt, c.loop-block.invariant.count))
                ∙ c.loop-block.invariant.each i lt
          ];
    }
