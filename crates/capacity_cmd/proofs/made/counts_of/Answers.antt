use Rattle.std.proofs.Common.{[], arith}
use Rattle.capacity_cmd.proofs.Counted.{one_counted, answers_counted}
use Rattle.capacity_cmd.proofs.made.counts_of.Goals as goal

pub loop-number-init : goal.loop-number-init
loop-number-init c = record { answers = []; are = tt; counted_is = c.none-counts.ensures }

pub loop-number-preserved : goal.loop-number-preserved
loop-number-preserved c =
    one_counted c.args.tables.now c.loop-number.number _ _ (rw (← c.sections-number-end.ensures.count) c.loop-number-test.true)
    c.loop-number.invariant c.in_ok-count_section.ensures

pub count_section-requires-clause-room : goal.count_section-requires-clause-room
count_section-requires-clause-room c =
    omega (arith, answers_counted c.args.tables.now c.loop-number.number _ (omega arith) c.loop-number.invariant)
