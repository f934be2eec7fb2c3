use Rattle.std.proofs.Common.{length, refl, ap, ◌∙◌, arith}
use Rattle.plan_model.specs.Journal.{script_of}
use Rattle.plan_model.proofs.Legality.{legal_has_one}
use Rattle.session_run.proofs.NextTasks.{planner_now, left_now, task_more, script_done}
use Rattle.session_run.proofs.alone.do_script.Goals as goal

pub loop-task-init : goal.loop-task-init
loop-task-init c = (refl, c.requires.kept)

pub do_task-requires-clause-planner : goal.do_task-requires-clause-planner
do_task-requires-clause-planner c =
    let same = c.slice.ensures ∙ c.journal.ensures.same in
    let length_is = c.script_length-task-end.ensures ∙ ap (λ j. length (script_of j c.args.planner)) same in
    planner_now c.args.book.now c.loop-task.book c.args.planner c.loop-task._task (legal_has_one c.args.book.now c.journal.ensures.is_journal.legal)
    c.requires.planner c.requires.none c.loop-task.invariant.0 (omega (arith, c.loop-task-test.true, length_is))

pub do_task-requires-clause-left : goal.do_task-requires-clause-left
do_task-requires-clause-left c =
    let same = c.slice.ensures ∙ c.journal.ensures.same in
    let length_is = c.script_length-task-end.ensures ∙ ap (λ j. length (script_of j c.args.planner)) same in
    left_now c.args.book.now c.loop-task.book c.args.planner c.loop-task._task (legal_has_one c.args.book.now c.journal.ensures.is_journal.legal)
    c.requires.planner c.requires.none c.loop-task.invariant.0 (omega (arith, c.loop-task-test.true, length_is))

pub loop-task-preserved : goal.loop-task-preserved
loop-task-preserved c =
    let same = c.slice.ensures ∙ c.journal.ensures.same in
    let length_is = c.script_length-task-end.ensures ∙ ap (λ j. length (script_of j c.args.planner)) same in (
      task_more c.args.book.now c.loop-task.book c.args.planner c.loop-task._task (legal_has_one c.args.book.now c.journal.ensures.is_journal.legal)
          c.requires.planner c.requires.none c.loop-task.invariant.0 (omega (arith, c.loop-task-test.true, length_is)) c.do_task.new.book c.in_ok-do_task.ensures.done,
      c.in_ok-do_task.ensures.kept,
    )

pub returns-clause-done : goal.returns-clause-done
returns-clause-done c =
    let same = c.slice.ensures ∙ c.journal.ensures.same in
    let length_is = c.script_length-task-end.ensures ∙ ap (λ j. length (script_of j c.args.planner)) same in
    script_done c.args.book.now c.loop-task.book c.args.planner c.loop-task._task (omega (arith, c.loop-task-test.false, length_is)) c.loop-task.invariant.0

pub do_task-requires-clause-kept : goal.do_task-requires-clause-kept
do_task-requires-clause-kept c = c.loop-task.invariant.1

pub returns-clause-kept : goal.returns-clause-kept
returns-clause-kept c = c.loop-task.invariant.1
