use Rattle.std.proofs.Common.{◌≡◌, ◌<◌, ◌≤◌, ◌+◌, ◌*◌, ◌/◌, ℕ, length, get_or, take, take_all, ap, ◌∙◌, arith}
use Rattle.std.specs.Prelude.{pos, slice_index_or, fold}
use Rattle.plan_model.specs.Members.{no_use}
use Rattle.headway_table.specs.Numbers.{raised_from}
use Rattle.headway_table.proofs.Place.{four_raise, four_more}
use Rattle.headway_table.proofs.row.raise_by_all.Goals as goal

pub loop-four-preserved : goal.loop-four-preserved
loop-four-preserved c =
    let row = c.args.row.now in
    let uses = row.uses in
    let before = c.loop-four.invariant in
    let k = 4 * c.loop-four.four in
    let there : k + 3 < length uses = omega (arith, c.loop-four-test.true, c.len-count.ensures) in
    record {
      count = c.raise_four.ensures.count ∙ before.count;
      each = λ j l.
          let f = raised_from c.args.starts.now row.entry j in
          let z = slice_index_or c.args.greatest.now j (pos 0) in
          c.raise_four.ensures.each j (omega (arith, l, before.count))
          ∙ four_raise c.args.starts.now row j _ _ _ _ _ _ _ _ c.ending_at.ensures c.ending_at-in-loop-four.ensures
          c.ending_at-in-loop-four-2.ensures c.ending_at-in-loop-four-3.ensures (slice_index_or c.loop-four.greatest j (pos 0))
          ∙ ap (λ y. f (f (f (f y (get_or uses k no_use)) (get_or uses (k + 1) no_use)) (get_or uses (k + 2) no_use))
          (get_or uses (k + 3) no_use)) (before.each j l)
          ∙ four_more f z uses k no_use there
          ∙ ap (λ (n : ℕ). fold f z (take n uses)) (omega arith);
    }

pub returns-clause-each : goal.returns-clause-each
returns-clause-each c =
    let uses = c.args.row.now.uses in
    let fours = c.loop-four.invariant in
    let all : length uses ≤ c.loop-k.k = omega (arith, c.loop-k-test.false, c.len-count.ensures) in
    let done : c.loop-four.four ≡ length uses / 4 = omega (arith, c.loop-four-test.false, c.loop-four.auto.four-end, c.len-count.ensures) in
    λ j l.
    let f = raised_from c.args.starts.now c.args.row.now.entry j in
    let z = slice_index_or c.args.greatest.now j (pos 0) in
    c.loop-k.invariant.each j z (omega (arith, l, fours.count))
    (fours.each j l ∙ ap (λ (n : ℕ). fold f z (take (4 * n) uses)) done) ∙ ap (fold f z) (take_all c.loop-k.k uses all)
