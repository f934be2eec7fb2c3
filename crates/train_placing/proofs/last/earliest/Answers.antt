use Rattle.std.proofs.Common.{◌≡◌, ◌<◌, length, get_or, rules, refl, sym, ap, ◌∙◌, arith, to_z, of_z, w64}
use Rattle.std.specs.Prelude.{None, slice_index_or}
use Rattle.std.proofs.lemmas.List.Sums.{fold_more}
use Rattle.plan_model.specs.Members.{no_use}
use Rattle.train_placing.specs.Last.{after, after_use}
use Rattle.train_placing.proofs.last.earliest.Goals as goal

pub loop-one-init : goal.loop-one-init
loop-one-init c = refl

pub loop-one-preserved : goal.loop-one-preserved
loop-one-preserved c =
    let row = c.args.row.now in
    let last = c.args.last.now in
    let k = c.loop-one.one-index in
    let u = get_or c.slice-one-items.result.now k no_use in
    let planned : to_z w64 (of_z w64 row.entry) ≡ row.entry = search rules in
    let fits : to_z w64 (of_z w64 c.after-entry.result) ≡ c.after-entry.result = search rules in
    let there : k < length row.uses = omega (arith, c.loop-one-test.true, ap length c.slice-one-items.ensures) in
    fits ∙ c.after-entry.ensures
    ∙ ap (λ e. after (to_z w64 (of_z w64 row.entry)) (slice_index_or last u.block None) e u) c.loop-one.entry-is
    ∙ ap (λ p. after p (slice_index_or last u.block None) c.loop-one.entry u) planned
    ∙ ap (λ us. after_use row.entry last c.loop-one.entry (get_or us k no_use)) c.slice-one-items.ensures
    ∙ ap (λ e. after_use row.entry last e (get_or row.uses k no_use)) (sym c.loop-one.entry-is ∙ c.loop-one.invariant)
    ∙ sym (fold_more (after_use row.entry last) _ row.uses k no_use there)
