use Rattle.std.proofs.Common.{[], ◌∷◌, length, ap, ◌∙◌, subst, arith}
use Rattle.std.proofs.lemmas.List.{length-append, get_or_default}
use Rattle.section_cut.specs.Spans.{IsSpan}
use Rattle.section_cut.proofs.Parts.{list_spans_more}
use Rattle.section_cut.proofs.spans.list_spans.Goals as goal

pub loop-list-preserved : goal.loop-list-preserved
loop-list-preserved c =
    let lists = c.args.lists.now in
    let n = c.loop-list.list-index in
    let list = c.slice.ensures ∙ c.list-item.is ∙ get_or_default lists n c.list-item.result [] c.loop-list-test.true in record {
      count = omega (arith, ap length c.in_ok-push.ensures.items, length-append c.loop-list.spans.items (c.span_of.result ∷ []), c.loop-list.invariant.count);
      each =
          list_spans_more c.args.positions.now c.args.blocks lists c.loop-list.spans.items c.push.new.self.items c.span_of.result n c.in_ok-push.ensures.items
          (subst (λ l. IsSpan c.args.positions.now c.args.blocks l c.span_of.result) list c.span_of.ensures) c.loop-list.invariant.count c.loop-list.invariant.each;
    }

pub returns : goal.returns
returns c k d l = c.loop-list.invariant.each k d (omega (arith, l, c.loop-list-test.false))
