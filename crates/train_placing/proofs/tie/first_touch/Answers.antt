use Rattle.std.proofs.Common.{◌≡◌, ◌<◌, length, get_or, rules, sym, ap, ◌∙◌, arith, to_z, of_z, w64}
use Rattle.std.specs.Prelude.{None}
use Rattle.std.proofs.lemmas.List.Sums.{fold_more}
use Rattle.plan_model.specs.Members.{no_use}
use Rattle.train_placing.specs.Touch.{better_with, touch_with}
use Rattle.train_placing.proofs.tie.first_touch.Goals as goal

pub loop-one-preserved : goal.loop-one-preserved
loop-one-preserved c =
    let cut = c.args.cut.now in
    let row = c.args.row.now in
    let last = c.args.last.now in
    let entry = to_z w64 (of_z w64 c.args.entry) in
    let k = c.loop-one.one-index in
    let u = get_or c.slice-one-items.result.now k no_use in
    let planned : to_z w64 (of_z w64 row.entry) ≡ row.entry = search rules in
    let there : k < length row.uses = omega (arith, c.loop-one-test.true, ap length c.slice-one-items.ensures) in
    record {
      same =
          c.better_with-best.ensures.same
          ∙ ap (λ p. better_with cut p entry (get_or last u.block None) c.loop-one.best u) planned
          ∙ ap (λ us. touch_with cut row.entry entry last c.loop-one.best
          (get_or us k no_use)) c.slice-one-items.ensures
          ∙ ap (λ b. touch_with cut row.entry entry last b (get_or row.uses k no_use)) c.loop-one.invariant.same
          ∙ sym (fold_more (touch_with cut row.entry entry last) None row.uses k no_use there);
      place = c.better_with-best.ensures.place;
    }
