use Rattle.std.proofs.Common.{◌≡◌, ◌<◌, length, get_or, rules, sym, ap, ◌∙◌, arith, to_z, of_z, w64}
use Rattle.std.specs.Prelude.{None, slice_index_or}
use Rattle.std.proofs.lemmas.List.Sums.{fold_more}
use Rattle.plan_model.specs.Members.{no_use}
use Rattle.occupancy_rate.specs.Spans.{with_use}
use Rattle.occupancy_rate.proofs.spans.widen_by_row.Goals as goal

pub loop-one-preserved : goal.loop-one-preserved
loop-one-preserved c =
    let row = c.args.row.now in
    let before = c.loop-one.invariant in
    let k = c.loop-one.one-index in
    let there : k < length row.uses = omega (arith, c.loop-one-test.true, ap length c.slice-one-items.ensures) in
    let planned : to_z w64 (of_z w64 row.entry) ≡ row.entry = search rules in
    let entry = to_z w64 (of_z w64 c.args.entry) in
    record {
      count = c.widen_by_use.ensures.count ∙ before.count;
      all = λ b l.
          let u = get_or c.slice-one-items.result.now k no_use in
          let old = slice_index_or c.args.spans.now b None in
          c.widen_by_use.ensures.all b (omega (arith, l, before.count))
          ∙ ap (λ p. with_use p entry b (slice_index_or c.loop-one.spans b None) u) planned
          ∙ ap (λ us. with_use row.entry entry b (slice_index_or c.loop-one.spans b None) (get_or us k no_use)) c.slice-one-items.ensures
          ∙ ap (λ s. with_use row.entry entry b s (get_or row.uses k no_use)) (before.all b l)
          ∙ sym (fold_more (with_use row.entry entry b) old row.uses k no_use there);
    }
