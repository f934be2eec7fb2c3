use Rattle.std.proofs.Common.{take}
use Rattle.plan_model.specs.Journal.{opening}
use Rattle.plan_model.specs.Session.{tasks_in_turn}
use Rattle.section_worker.specs.Keeping.{KeepsWhatWasRead}
use Rattle.session_run.specs.Turns.{DoesTasks}
use Rattle.session_run.proofs.alone.do_scripts.Given as goal

-- the first scripts are done, and what is kept was read
abbrev pub invariant-loop-place : goal.invariant-loop-place
invariant-loop-place l =
    DoesTasks l.initial.book (tasks_in_turn (take l.place (opening l.initial.book).scripts)) l.book
    × KeepsWhatWasRead l.worker l.book
