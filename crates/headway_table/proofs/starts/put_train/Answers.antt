use Rattle.std.proofs.Common.{◌<◌, length, get_or, take, ap, subst, arith}
use Rattle.std.specs.Prelude.{fold}
use Rattle.std.proofs.lemmas.List.Sums.{fold_more}
use Rattle.plan_model.specs.Members.{no_use}
use Rattle.headway_table.specs.Starts.{with_use_start, Changes}
use Rattle.headway_table.proofs.Changed.{one_more}
use Rattle.headway_table.proofs.starts.put_train.Goals as goal

pub put-requires-clause-wide : goal.put-requires-clause-wide
put-requires-clause-wide c =
    let before = c.loop-one.invariant in
    λ p l.
    let there : p < length c.args.table.now = omega (arith, l, before.count) in
    omega (arith, before.widths p there, c.requires.wide p there)

pub loop-one-preserved : goal.loop-one-preserved
loop-one-preserved c =
    let row = c.args.row.now in
    let j = c.args.j in
    let k = c.loop-one.one-index in
    let there : k < length row.uses = omega (arith, c.loop-one-test.true, ap length c.slice-one-items.ensures) in
    let by_use = subst (λ us. Changes j (λ p x. with_use_start row.entry p x (get_or us k no_use)) c.loop-one.table c.put.new.table)
    c.slice-one-items.ensures c.put.ensures in
    one_more j (λ p x. fold (with_use_start row.entry p) x (take k row.uses))
    (λ p x. with_use_start row.entry p x (get_or row.uses k no_use)) _ _ _ _
    (λ p x. fold_more (with_use_start row.entry p) x row.uses k no_use there)
    c.loop-one.invariant by_use
