use Rattle.std.proofs.Common.{arith, ◌∙◌}
use Rattle.row_text.specs.Words.{name_in}
use Rattle.row_text.proofs.Reading.{after-read}
use Rattle.row_text.proofs.lists.names_from.Goals as goal

pub loop-i-preserved : goal.loop-i-preserved
loop-i-preserved c =
    let inv = c.loop-i.invariant in
    let more = c.in_ok-push_name.ensures.ok in
    record {
      count = grind (arith, more.2);
      filled = omega (arith, inv.filled, c.in_ok-push_name.ensures.len);
      room = omega (arith, inv.room, c.in_ok-push_name.ensures.capacity);
      whole = rw more.2 (after-read name_in c.args.row.now c.loop-i.i c.loop-i.names.items more.0 (omega arith) more.1) ∙ inv.whole;
    }
