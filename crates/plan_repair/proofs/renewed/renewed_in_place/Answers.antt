use Rattle.std.proofs.Common.{◌+◌, ◌<◌, drop, length, refl, ap, subst, ◌∙◌, arith, length-append}
use Rattle.std.proofs.lemmas.List.{length-set}
use Rattle.plan_model.specs.Members.{member_count}
use Rattle.plan_repair.specs.Left.{HasName}
use Rattle.plan_repair.proofs.Leaving.{part_of}
use Rattle.plan_repair.proofs.Renewing.{in_all, renewed_first, taken_in_all, more_in_place}
use Rattle.plan_repair.proofs.renewed.renewed_in_place.Goals as goal

pub loop-i-init : goal.loop-i-init
loop-i-init g c =
    let none = c.in_ok-origin.ensures.items in
    record {
      number = ap length none;
      count = refl;
      renewed = rw none (renewed_first c.args.rows.now (g.R.Rows.shown c.args.reading.now) c.requires.rise);
    }

pub returns-then-not-has_name-clause-renewed : goal.returns-then-not-has_name-clause-renewed
returns-then-not-has_name-clause-renewed g c = rw c.loop-i.invariant.number c.loop-i.invariant.renewed

pub returns-then-not-has_name-clause-reading : goal.returns-then-not-has_name-clause-reading
returns-then-not-has_name-clause-reading g c =
    in_all c.args.rows.now (g.R.Rows.shown c.args.reading.now) _ _ c.loop-i.invariant.renewed.renewing.taken

pub returns-clause-reading : goal.returns-clause-reading
returns-clause-reading g c =
    in_all c.args.rows.now (g.R.Rows.shown c.args.reading.now) _ _ c.loop-i.invariant.renewed.renewing.taken

pub returns-clause-renewed : goal.returns-clause-renewed
returns-clause-renewed g c = rw c.loop-i.invariant.number c.loop-i.invariant.renewed

pub renew_row-requires-clause-name : goal.renew_row-requires-clause-name
renew_row-requires-clause-name g c =
    subst (HasName c.loop-i.rows c.loop-i.i) c.name-name.ensures (c.has_name.ensures c.if-not-has_name.false)

pub renew_row-requires-clause-agree : goal.renew_row-requires-clause-agree
renew_row-requires-clause-agree g c =
    let so_far = c.loop-i.invariant.renewed.renewing in
    rw so_far.taken.cut
    (λ one row there. c.requires.agree one row (part_of c.args.rows.now (drop c.loop-i.i c.loop-i.rows) so_far.left.ends one there))

pub returns-in_err-from-clause-reading : goal.returns-in_err-from-clause-reading
returns-in_err-from-clause-reading g c =
    taken_in_all _ _ _ _ _ _ _ c.loop-i.invariant.renewed (omega (arith, c.loop-i-test.true, c.count-i-end.ensures.count)) _
    c.renew_row.ensures.reading

pub returns-in_err-push-clause-reading : goal.returns-in_err-push-clause-reading
returns-in_err-push-clause-reading g c =
    taken_in_all _ _ _ _ _ _ _ c.loop-i.invariant.renewed (omega (arith, c.loop-i-test.true, c.count-i-end.ensures.count)) _
    c.renew_row.ensures.reading

pub loop-i-preserved : goal.loop-i-preserved
loop-i-preserved g c =
    let before = g.R.Rows.shown c.args.reading.now in
    let so_far = c.loop-i.invariant in
    let rows = c.loop-i.rows in
    let i = c.loop-i.i in
    let below : i < member_count before.cut = omega (arith, c.loop-i-test.true, c.count-i-end.ensures.count) in
    let first = subst (HasName rows i) c.name-name.ensures (c.has_name.ensures c.if-not-has_name.false) in
    let pushed = c.in_ok-push.ensures.items in
    record {
      number = ap length pushed ∙ length-append c.loop-i.origin.items _ ∙ ap (λ n. n + 1) so_far.number;
      count = ap length c.in_ok-from.ensures.rows ∙ length-set rows i _ ∙ so_far.count;
      renewed = rw pushed
          (more_in_place c.args.rows.now before i rows c.renew_row.new.rows c.loop-i.origin.items c.in_ok-from.from
          (g.R.Rows.shown c.loop-i.reading) (g.R.Rows.shown c.renew_row.new.reading) so_far.renewed c.requires.sound below so_far.count
          first c.in_ok-from.ensures.rows c.in_ok-from.ensures.from c.renew_row.ensures.reading);
    }
