use Rattle.plan_model.proofs.Legality.{legal_has_one}
use Rattle.session_run.proofs.Publishing.{main_issued}
use Rattle.session_run.proofs.Keeping.{keeps_stepping}
use Rattle.session_run.proofs.NextTasks.{planner_ready, step_does}
use Rattle.session_run.proofs.alone.do_task.Goals as goal

pub step-requires-clause-issued : goal.step-requires-clause-issued
step-requires-clause-issued c = main_issued c.catch_up.new.book

pub step-requires-clause-planner : goal.step-requires-clause-planner
step-requires-clause-planner c =
    planner_ready c.args.planner c.args.book.now c.catch_up.new.book (legal_has_one c.args.book.now c.in_ok-catch_up.ensures.legal)
    c.requires.planner c.in_ok-catch_up.ensures.ok

pub returns-clause-done : goal.returns-clause-done
returns-clause-done c =
    step_does c.args.planner c.args.book.now c.catch_up.new.book (legal_has_one c.args.book.now c.in_ok-catch_up.ensures.legal)
    c.requires.planner c.in_ok-catch_up.ensures.ok c.step.new.self c.in_ok-_stepped._stepped c.requires.left c.in_ok-_stepped.ensures

pub returns-clause-kept : goal.returns-clause-kept
returns-clause-kept c =
    keeps_stepping c.catch_up.new.worker c.args.planner c.catch_up.new.book c.step.new.self c.in_ok-_stepped._stepped
    c.in_ok-_stepped.ensures c.in_ok-catch_up.ensures.kept
