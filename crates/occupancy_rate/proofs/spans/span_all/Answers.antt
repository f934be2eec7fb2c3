use Rattle.std.proofs.Common.{ℕ, rules, ◌≡◌, ◌<◌, length, ap, ◌∙◌, arith}
use Rattle.std.specs.Prelude.{None, slice_index_or}
use Rattle.plan_model.specs.declared.cut.CutRow.{CutRow}
use Rattle.plan_model.specs.Members.{member, member_count}
use Rattle.plan_model.specs.Schedule.{entry_at}
use Rattle.occupancy_rate.specs.Spans.{with_row, span_upto}
use Rattle.occupancy_rate.proofs.Widened.{upto_more, span_is}
use Rattle.occupancy_rate.proofs.spans.span_all.Goals as goal

pub loop-i-preserved : goal.loop-i-preserved
loop-i-preserved c =
    let cut = c.args.cut.now in
    let i = c.loop-i.i in
    let before = c.loop-i.invariant in
    let step : (b : ℕ) → b < length c.loop-i.spans → slice_index_or c.widen_by_row.new.spans b None
    ≡ with_row c.row.result.now (entry_at c.args.entries.now i) b (slice_index_or c.loop-i.spans b None) = search rules in
    record {
      count = c.widen_by_row.ensures.count ∙ before.count;
      each = λ b l.
          step b (omega (arith, l, before.count))
          ∙ ap (λ (r : CutRow). with_row r (entry_at c.args.entries.now i) b (slice_index_or c.loop-i.spans b None)) c.row.ensures.row
          ∙ ap (with_row (member cut i) (entry_at c.args.entries.now i) b) (before.each b l)
          ∙ upto_more cut c.args.entries.now i b;
    }

pub returns : goal.returns
returns c =
    let cut = c.args.cut.now in
    let all = c.loop-i.invariant in
    let done : c.loop-i.i ≡ member_count cut =
    omega (arith, c.loop-i-test.false, c.loop-i.auto.i-end, c.member_count-i-end.ensures.count) in
    record {
      count = all.count ∙ c.requires.blocks;
      each = λ b l.
          all.each b (omega (arith, l, c.requires.blocks))
          ∙ ap (λ n. span_upto cut c.args.entries.now n b) done
          ∙ span_is cut c.args.entries.now b c.member_count-i-end.ensures.sound;
    }
