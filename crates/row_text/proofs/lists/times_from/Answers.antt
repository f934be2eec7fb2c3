use Rattle.std.proofs.Common.{arith, rules, ◌∙◌}
use Rattle.row_text.specs.Words.{time_in}
use Rattle.row_text.proofs.Reading.{after-read}
use Rattle.row_text.proofs.lists.times_from.Goals as goal

pub loop-i-preserved : goal.loop-i-preserved
loop-i-preserved c =
    let items = c.in_ok-push.ensures.items in
    record {
      count = grind (arith, items);
      whole = rw items (after-read (time_in c.args.version) c.args.row.now c.loop-i.i c.loop-i.times.items c.in_ok-time_at.field-0 (omega arith) (search rules)) ∙ c.loop-i.invariant.whole;
    }
