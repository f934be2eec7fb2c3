use Rattle.std.proofs.Common.{◌≡◌, ◌<◌, length, ap, subst, arith, length-take}
use Rattle.std.specs.Prelude.{IfSome}
use Rattle.plan_model.specs.Members.{member_count}
use Rattle.plan_repair.specs.Left.{StoodAt}
use Rattle.plan_repair.proofs.Leaving.{part_of}
use Rattle.plan_repair.proofs.Renewing.{in_all, taken_in_all, renewed_more}
use Rattle.plan_repair.proofs.renewed.renewed_rows.Goals as goal

pub loop-i-init : goal.loop-i-init
loop-i-init g c =
    let origin = c.in_ok-origin.origin in
    let n : c.len-start.result ≡ length origin.items = omega (arith, c.len-start.ensures, origin.ok.0) in
    rw (c.in_ok-rest.ensures.items, c.from_vec-left.ensures.items, c.in_ok-rest.ensures.tail, c.into_vec-rows.ensures, n)
    c.in_ok-origin.ensures.renewed

pub returns-in_err-rest-clause-reading : goal.returns-in_err-rest-clause-reading
returns-in_err-rest-clause-reading g c =
    in_all c.args.kept (g.R.Rows.shown c.args.reading.now) _ _ c.in_ok-origin.ensures.renewed.renewing.taken

pub next_row-requires-clause-agree : goal.next_row-requires-clause-agree
next_row-requires-clause-agree g c =
    let so_far = c.loop-i.invariant.renewing in
    rw so_far.taken.cut (λ one row there. c.requires.agree one row (part_of c.args.kept c.loop-i.left.items so_far.left.ends one there))

pub returns-in_err-row-clause-reading : goal.returns-in_err-row-clause-reading
returns-in_err-row-clause-reading g c =
    taken_in_all _ _ _ _ _ _ _ c.loop-i.invariant (omega (
      arith,
      c.loop-i-test.true,
      c.count-i-end.ensures.count,
      ap member_count c.in_ok-origin.ensures.renewed.renewing.taken.cut,
    )) _
    c.next_row.ensures.reading

pub returns-in_err-push-clause-reading : goal.returns-in_err-push-clause-reading
returns-in_err-push-clause-reading g c =
    taken_in_all _ _ _ _ _ _ _ c.loop-i.invariant (omega (
      arith,
      c.loop-i-test.true,
      c.count-i-end.ensures.count,
      ap member_count c.in_ok-origin.ensures.renewed.renewing.taken.cut,
    )) _
    c.next_row.ensures.reading

pub returns-in_err-push-2-clause-reading : goal.returns-in_err-push-2-clause-reading
returns-in_err-push-2-clause-reading g c =
    taken_in_all _ _ _ _ _ _ _ c.loop-i.invariant (omega (
      arith,
      c.loop-i-test.true,
      c.count-i-end.ensures.count,
      ap member_count c.in_ok-origin.ensures.renewed.renewing.taken.cut,
    )) _
    c.next_row.ensures.reading

pub loop-i-preserved : goal.loop-i-preserved
loop-i-preserved g c =
    let before = g.R.Rows.shown c.args.reading.now in
    let left = c.loop-i.left.items in
    let below : c.loop-i.i < member_count before.cut = omega (
      arith,
      c.loop-i-test.true,
      c.count-i-end.ensures.count,
      ap member_count c.in_ok-origin.ensures.renewed.renewing.taken.cut,
    ) in
    let from = subst (λ n. IfSome c.in_ok-row.from (StoodAt n left c.next_row.new.left.items c.in_ok-row.row)) c.len-count.ensures.count
    c.in_ok-row.ensures.from in
    rw (c.in_ok-push.ensures.items, c.in_ok-push-2.ensures.items)
    (renewed_more c.args.kept before c.loop-i.i c.loop-i.rows.items left c.loop-i.origin.items (g.R.Rows.shown c.loop-i.reading)
    c.loop-i.invariant below (g.R.Rows.shown c.next_row.new.reading) c.next_row.ensures.reading c.in_ok-row.row c.in_ok-row.from
    c.next_row.new.left.items c.requires.sound c.in_ok-row.ensures.row c.next_row.ensures.left from)

pub returns-clause-origin : goal.returns-clause-origin
returns-clause-origin g c = rw c.from_vec.ensures c.loop-i.invariant.stood.so_far

pub from_vec-requires : goal.from_vec-requires
from_vec-requires g c =
    let rows = (g.R.Rows.shown c.args.reading.now).cut.rows in
    omega (arith, ap length c.loop-i.invariant.first, length-take c.loop-i.i rows, c.requires.sound.most_rows)
