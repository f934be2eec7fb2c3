use Rattle.std.proofs.Common.{take}
use Rattle.plan_model.specs.Journal.{script_of}
use Rattle.section_worker.specs.Keeping.{KeepsWhatWasRead}
use Rattle.session_run.specs.Turns.{DoesTasks, by_planner}
use Rattle.session_run.proofs.alone.do_script.Given as goal

-- the first tasks are done, and what is kept was read
abbrev pub invariant-loop-task : goal.invariant-loop-task
invariant-loop-task l =
    DoesTasks l.initial.book (by_planner l.planner (take l._task (script_of l.initial.book l.planner))) l.book
    × KeepsWhatWasRead l.worker l.book
