use Rattle.std.proofs.Common.{◌≡◌, ◌<◌, length, get_or, rules, sym, ap, ◌∙◌, arith, to_z, of_z, w64}
use Rattle.std.specs.Prelude.{None, slice_index_or}
use Rattle.std.proofs.lemmas.List.Sums.{fold_more}
use Rattle.plan_model.specs.Members.{no_use}
use Rattle.train_placing.specs.Last.{with_use}
use Rattle.train_placing.proofs.last.occupy.Goals as goal

pub loop-one-preserved : goal.loop-one-preserved
loop-one-preserved c =
    let row = c.args.row.now in
    let train = c.args.train in
    let entry = to_z w64 (of_z w64 c.args.entry) in
    let k = c.loop-one.one-index in
    let u = get_or c.slice-one-items.result.now k no_use in
    let planned : to_z w64 (of_z w64 row.entry) ≡ row.entry = search rules in
    let there : k < length row.uses = omega (arith, c.loop-one-test.true, ap length c.slice-one-items.ensures) in
    record {
      count = c.occupy_one.ensures.count ∙ c.loop-one.invariant.count;
      all = λ p l.
          let before = slice_index_or c.loop-one.last p None in
          c.occupy_one.ensures.all p (omega (arith, l, c.loop-one.invariant.count))
          ∙ ap (λ q. with_use q train entry p before u) planned
          ∙ ap (λ us. with_use row.entry train entry p before (get_or us k no_use)) c.slice-one-items.ensures
          ∙ ap (λ o. with_use row.entry train entry p o (get_or row.uses k no_use)) (c.loop-one.invariant.all p l)
          ∙ sym (fold_more (with_use row.entry train entry p) (slice_index_or c.args.last.now p None)
          row.uses k no_use there);
    }
