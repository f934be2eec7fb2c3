use Rattle.std.proofs.Common.{◌≡◌, ℕ, ◌+◌, ◌*◌, ◌<◌, ◌≤◌, sym, ap, ◌∙◌, arith}
use Rattle.std.specs.Prelude.{◌^◌, sum_by}
use Rattle.plan_model.specs.Members.{member_count}
use Rattle.delay_spread.specs.Spreading.{knock_on}
use Rattle.delay_spread.proofs.Tally.{all, sum_more}
use Rattle.delay_spread.proofs.knock_on.sum.Goals as goal

within : (sum i k : ℕ) → sum ≤ i * 2 ^ 51 → k ≤ 2 ^ 51 → sum + k ≤ (i + 1) * 2 ^ 51
within sum i k a b = omega (arith, a, b)

pub overflow_add-sum : goal.overflow_add-sum
overflow_add-sum c =
    let cut = c.args.cut.now in
    let i = c.loop-i.i in
    let l : i < member_count cut = omega (arith, c.loop-i-test.true, c.member_count-i-end.ensures.count) in
    let is : c.knock_on-sum.result ≡ knock_on cut c.args.delays.now c.args.entries.now i =
    c.knock_on-sum.ensures ∙ ap (λ k. knock_on k c.args.delays.now c.args.entries.now i) c.sound.ensures.cut in
    omega (arith, c.loop-i.invariant.small, is, c.requires.small i l, l, c.sound.ensures.few)

pub loop-i-preserved : goal.loop-i-preserved
loop-i-preserved c =
    let cut = c.args.cut.now in
    let delays = c.args.delays.now in
    let entries = c.args.entries.now in
    let i = c.loop-i.i in
    let l : i < member_count cut = omega (arith, c.loop-i-test.true, c.member_count-i-end.ensures.count) in
    let is : c.knock_on-sum.result ≡ knock_on cut delays entries i =
    c.knock_on-sum.ensures ∙ ap (λ k. knock_on k delays entries i) c.sound.ensures.cut in
    record {
      is =
          ap (λ n. c.loop-i.sum + n) is ∙ ap (λ n. n + knock_on cut delays entries i) c.loop-i.invariant.is
          ∙ sym (sum_more cut delays entries i l);
      small = omega (arith, c.loop-i.invariant.small, is, c.requires.small i l);
    }

pub returns : goal.returns
returns c =
    let cut = c.args.cut.now in
    let delays = c.args.delays.now in
    let entries = c.args.entries.now in
    c.loop-i.invariant.is
    ∙ ap (sum_by (knock_on cut delays entries))
    (all cut delays entries c.loop-i.i (omega (arith, c.loop-i-test.false, c.member_count-i-end.ensures.count)))
