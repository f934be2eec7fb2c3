use Rattle.std.proofs.Common.{◌<◌, ◌≤◌, length, get_or, sym, ap, ◌∙◌, arith}
use Rattle.std.specs.Prelude.{None, fold}
use Rattle.std.proofs.lemmas.List.Sums.{fold_more}
use Rattle.std.proofs.lemmas.List.{take_all}
use Rattle.plan_model.specs.Members.{no_use}
use Rattle.plan_model.proofs.Sound.{usable_row}
use Rattle.headway_table.specs.Walk.{end_in, with_use}
use Rattle.headway_table.proofs.Walked.{walked_is}
use Rattle.headway_table.proofs.pair.headway.Goals as goal

pub with_use-greatest-requires-clause-next : goal.with_use-greatest-requires-clause-next
with_use-greatest-requires-clause-next c =
    let second = c.requires.rows.second in
    (usable_row second.cut c.args.b.now second.sound).entry

pub loop-one-preserved : goal.loop-one-preserved
loop-one-preserved c =
    let a = c.args.a.now in
    let b = c.args.b.now in
    let k = c.loop-one.one-index in
    let there : k < length b.uses = omega (arith, c.loop-one-test.true, ap length c.slice-one-items.ensures) in
    c.with_use-greatest.ensures
    ∙ ap (λ us. with_use (end_in a) b.entry c.loop-one.greatest (get_or us k no_use)) c.slice-one-items.ensures
    ∙ ap (λ o. with_use (end_in a) b.entry o (get_or b.uses k no_use)) c.loop-one.invariant
    ∙ sym (fold_more (with_use (end_in a) b.entry) None b.uses k no_use there)

pub returns : goal.returns
returns c =
    let a = c.args.a.now in
    let b = c.args.b.now in
    let whole : length b.uses ≤ c.loop-one.one-index =
    omega (arith, c.loop-one-test.false, ap length c.slice-one-items.ensures) in
    c.loop-one.invariant ∙ ap (fold (with_use (end_in a) b.entry) None) (take_all c.loop-one.one-index b.uses whole)
    ∙ walked_is a b c.requires.rows.second.sound.places_differ
