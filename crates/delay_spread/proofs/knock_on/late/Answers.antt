use Rattle.std.proofs.Common.{◌+◌, ◌<◌, sym, ap, ◌∙◌, arith, subst}
use Rattle.std.specs.Prelude.{◌≤◌, nat_lt, count_by}
use Rattle.plan_model.specs.Members.{member_count}
use Rattle.delay_spread.specs.Spreading.{knock_on}
use Rattle.delay_spread.proofs.Tally.{all, few, late_more, late_same}
use Rattle.delay_spread.proofs.knock_on.late.Goals.{then-knock_on-gt0, else-knock_on-gt0}
use Rattle.delay_spread.proofs.knock_on.late.Goals as goal

pub overflow_add-count : goal.overflow_add-count
overflow_add-count c =
    let cut = c.args.cut.now in
    let l : c.loop-i.i < member_count cut = omega (arith, c.loop-i-test.true, c.member_count-i-end.ensures.count) in
    omega (
      arith,
      c.loop-i.invariant,
      few cut c.args.delays.now c.args.entries.now c.loop-i.i l,
      l,
      c.member_count-i-end.ensures.count,
      c.member_count-i-end.type_inv,
    )

pub loop-i-preserved : goal.loop-i-preserved
loop-i-preserved c =
    let cut = c.args.cut.now in
    let delays = c.args.delays.now in
    let entries = c.args.entries.now in
    let i = c.loop-i.i in
    let l : i < member_count cut = omega (arith, c.loop-i-test.true, c.member_count-i-end.ensures.count) in
    elim c.if-knock_on-gt0.branch [
      | then-knock_on-gt0 w ↦
          w.count-is ∙ ap (λ n. n + 1) c.loop-i.invariant
          ∙ sym (late_more cut delays entries i l (subst (λ n. 0 < n) c.knock_on.ensures w.if-knock_on-gt0.true))
      | else-knock_on-gt0 w ↦
          w.count-is ∙ c.loop-i.invariant
          ∙ sym (late_same cut delays entries i l (subst (λ n. n ≤ 0) c.knock_on.ensures w.if-knock_on-gt0.false))
    ]

pub returns : goal.returns
returns c =
    let cut = c.args.cut.now in
    let delays = c.args.delays.now in
    let entries = c.args.entries.now in
    c.loop-i.invariant
    ∙ ap (count_by (λ k. nat_lt 0 (knock_on cut delays entries k)))
    (all cut delays entries c.loop-i.i (omega (arith, c.loop-i-test.false, c.member_count-i-end.ensures.count)))
