use Rattle.std.proofs.Common.{◌≡◌, ◌<◌, length, rules, ap, ◌∙◌, arith, to_z, of_z, w32}
use Rattle.std.specs.Prelude.{pos, slice_index_or}
use Rattle.headway_table.specs.Numbers.{raised_at, raised_by_four}
use Rattle.headway_table.proofs.Place.{one_more}
use Rattle.headway_table.proofs.row.raise_four.Goals as goal

pub loop-j-preserved : goal.loop-j-preserved
loop-j-preserved c =
    let now = c.loop-j.greatest in
    let j = c.loop-j.j in
    let first = raised_at c.args.first.now j in
    let second = raised_at c.args.second.now j in
    let third = raised_at c.args.third.now j in
    let fourth = raised_at c.args.fourth.now j in
    let x = to_z w32 (of_z w32 c.raised.result) in
    let there : j < length now = omega (arith, c.loop-j-test.true, c.loop-j.invariant.count) in
    let one : to_z w32 (of_z w32 c.raised-number.result) ≡ first (slice_index_or now j (pos 0)) = search rules in
    let two : to_z w32 (of_z w32 c.raised-number-in-loop-j.result) ≡ second (to_z w32 (of_z w32 c.raised-number.result)) = search rules in
    let three : to_z w32 (of_z w32 c.raised-number-in-loop-j-2.result) ≡ third (to_z w32 (of_z w32 c.raised-number-in-loop-j.result)) = search rules in
    let four : x ≡ fourth (to_z w32 (of_z w32 c.raised-number-in-loop-j-2.result)) = search rules in
    one_more (raised_by_four c.args.first.now c.args.second.now c.args.third.now c.args.fourth.now) j c.args.greatest.now now x
    c.loop-j.invariant there (four ∙ ap fourth (three ∙ ap third (two ∙ ap second one)))
