use Rattle.std.proofs.Common.{subst, sym}
use Rattle.timetable_desk.specs.Seat.{access_of}
use Rattle.session_run.specs.Actors.{Planner, Worker, IsAtWork}
use Rattle.session_run.proofs.Acting.{planner_works, worker_works, planner_is, worker_is, worker_keeps}
use Rattle.session_run.proofs.actor.Actor.go_on.Goals as goal

pub step-requires-after_bounds : goal.step-requires-after_bounds
step-requires-after_bounds g c =
    λ _ _. planner_is c.args.self.now c.in-Planner.planner c.requires.working c.requires.ended c.in-Planner.is

pub returns-in_err-self-in-Planner : goal.returns-in_err-self-in-Planner
returns-in_err-self-in-Planner g c =
    planner_works c.args.self.now c.in-Planner.planner c.step.new.board c.args.self.now.ended c.in-Planner.is c.step.ensures.same
    (subst (λ e. IsAtWork (Planner c.in-Planner.planner) e (access_of c.step.new.board)) (sym c.requires.ended) c.in_err-self-in-Planner.ensures.err)

pub turn-requires-clause-at_work : goal.turn-requires-clause-at_work
turn-requires-clause-at_work g c =
    λ _ _. worker_is c.args.self.now c.in-Worker.worker c.requires.working c.requires.ended c.in-Worker.is

pub turn-requires-clause-keeps : goal.turn-requires-clause-keeps
turn-requires-clause-keeps g c = λ _ _. worker_keeps c.args.self.now c.in-Worker.worker c.requires.working c.in-Worker.is

pub returns-in_err-self-in-Worker : goal.returns-in_err-self-in-Worker
returns-in_err-self-in-Worker g c =
    worker_works c.args.self.now c.in-Worker.worker c.turn.new.worker c.turn.new.board c.args.self.now.ended c.in-Worker.is c.turn.ensures.same
    c.turn.ensures.worker c.turn.ensures.keeps
    (subst (λ e. IsAtWork (Worker c.in-Worker.worker.share c.in-Worker.worker.of) e (access_of c.turn.new.board)) (sym c.requires.ended)
    c.in_err-self-in-Worker.ensures.err)

pub returns-in_ok-self-in-Planner : goal.returns-in_ok-self-in-Planner
returns-in_ok-self-in-Planner g c =
    planner_works c.args.self.now c.in-Planner.planner c.step.new.board c.in_ok-self-in-Planner.field-0 c.in-Planner.is c.step.ensures.same
    c.in_ok-self-in-Planner.ensures.ok

pub returns-in_ok-self-in-Worker : goal.returns-in_ok-self-in-Worker
returns-in_ok-self-in-Worker g c =
    worker_works c.args.self.now c.in-Worker.worker c.turn.new.worker c.turn.new.board c.in_ok-self-in-Worker.field-0 c.in-Worker.is c.turn.ensures.same
    c.turn.ensures.worker c.turn.ensures.keeps c.in_ok-self-in-Worker.ensures.ok
