use Rattle.std.proofs.Common.{◌+◌, ◌<◌, length, arith, rules, ◌∙◌}
use Rattle.row_text.proofs.Legs.{after-leg}
use Rattle.row_text.proofs.lists.legs_from.Goals as goal

pub loop-i-preserved : goal.loop-i-preserved
loop-i-preserved c =
    let row = c.args.row.now in
    let i = c.loop-i.i in
    let inv = c.loop-i.invariant in
    let there : i + 1 < length row = omega arith in
    record {
      within = omega arith;
      filled = omega (arith, inv.filled, c.push_reserved.ensures.len);
      room = omega (arith, inv.room, c.push_reserved.ensures.capacity);
      few = grind (arith, c.push_reserved.ensures.items);
      whole = rw c.push_reserved.ensures.items (after-leg row i c.in_ok-running_s.running_s c.in_ok-dwell_s.dwell_s c.loop-i.legs.items there (search rules) (search rules) ∙ inv.whole);
    }
