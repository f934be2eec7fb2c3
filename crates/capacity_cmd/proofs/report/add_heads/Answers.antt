use Rattle.std.proofs.Common.{[], sym, append-nil, arith}
use Rattle.capacity_cmd.proofs.Reports.{heads_added, sections_counted}
use Rattle.capacity_cmd.proofs.LastAnswers.{answer_there, none_missing}
use Rattle.capacity_cmd.proofs.report.add_heads.Goals as goal

pub loop-number-init : goal.loop-number-init
loop-number-init c = record { answers = []; are = tt; written = sym (append-nil c.args.sheet.now.rows); counted = c.requires.tally }

pub loop-number-preserved : goal.loop-number-preserved
loop-number-preserved c =
    heads_added c.args.tables.now c.loop-number.number _ _ _ _ _ (rw (← c.sections-number-end.ensures.count) c.loop-number-test.true) c.loop-number.invariant c.in_ok-add_head.ensures

pub add_head-requires-clause-answer : goal.add_head-requires-clause-answer
add_head-requires-clause-answer c =
    (answer_there c.args.tables.now c.loop-number.number (rw (← c.sections-number-end.ensures.count) c.loop-number-test.true)
    c.args.answers.now c.requires.answers _ _ c.in-Some.is).0

pub add_head-requires-clause-of_some : goal.add_head-requires-clause-of_some
add_head-requires-clause-of_some c =
    (answer_there c.args.tables.now c.loop-number.number (rw (← c.sections-number-end.ensures.count) c.loop-number-test.true)
    c.args.answers.now c.requires.answers _ _ c.in-Some.is).1

pub add_head-requires-clause-room : goal.add_head-requires-clause-room
add_head-requires-clause-room c =
    omega (arith, sections_counted c.args.tables.now c.loop-number.number _ _ _ (omega arith) c.loop-number.invariant)

pub unreachable-requires : goal.unreachable-requires
unreachable-requires c =
    none_missing c.args.tables.now c.loop-number.number (rw (← c.sections-number-end.ensures.count) c.loop-number-test.true)
    c.args.answers.now c.requires.answers _ c.in_default.not-Some
