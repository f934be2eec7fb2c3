use Rattle.std.proofs.Common.{sym, ◌∙◌, subst, arith}
use Rattle.section_cut.specs.Spans.{IsOver, KeepsLists}
use Rattle.section_cut.proofs.Parts.{lists_more, over_last}
use Rattle.section_cut.proofs.spans.number_in.Goals as goal

pub returns : goal.returns
returns c =
    let old = c.args.lists.now.items in
    let list = c.from_vec.result in record {
      over = subst (λ ls. IsOver ls c.args.uses.now c.len-count.result) (sym c.in_ok-push.ensures.items)
          (over_last old list c.args.uses.now c.len-count.result (omega arith) (c.from_vec.ensures ∙ c.in_ok-blocks_of.ensures));
      kept = subst (KeepsLists old) (sym c.in_ok-push.ensures.items) (lists_more old list);
    }
