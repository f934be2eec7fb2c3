use Rattle.std.proofs.Common.{None, refl, rules, subst}
use Rattle.turn_desk.specs.Known.{IsReady}
use Rattle.session_run.proofs.Seating.{its_desk, leaves_one}
use Rattle.session_run.proofs.Running.{none_gone, none_popped, one_stands, all_gone}
use Rattle.session_run.proofs.threads.leave_all.Goals as goal

pub loop-gone-init : goal.loop-gone-init
loop-gone-init c =
    rw c.from_vec-actors.ensures
    (none_gone c.args.desk.now c.args.planners c.args.workers c.args.main.now c.args.actors.items c.requires.ready c.requires.own c.requires.seen c.requires.actors)

pub unreachable-requires : goal.unreachable-requires
unreachable-requires c =
    none_popped None c.loop-gone.actors refl c.in_default.ensures.some
    (one_stands c.args.desk.now c.args.planners c.args.workers c.loop-gone._gone c.args.main.now.seen c.loop-gone.main c.loop-gone.actors c.loop-gone.invariant
    c.loop-gone-test.true)

pub leave-requires-clause-other : goal.leave-requires-clause-other
leave-requires-clause-other c =
    subst (λ d. IsReady d c.end.result)
    (its_desk c.args.desk.now c.args.planners c.args.workers c.args.main.now.seen c.loop-gone.main c.loop-gone.actors _ c.in-Some.actor c.loop-gone._gone
    c.loop-gone.invariant c.in-Some.ensures.items)
    c.end.ensures.ready

pub loop-gone-preserved : goal.loop-gone-preserved
loop-gone-preserved c =
    leaves_one c.args.desk.now c.args.planners c.args.workers c.args.main.now.seen c.loop-gone.main c.loop-gone.actors _ c.in-Some.actor c.loop-gone._gone
    c.loop-gone.invariant c.in-Some.ensures.items c.end.result _ c.leave.new.pass c.end.ensures.pass (search rules) c.leave.ensures.agree c.leave.ensures.joined

pub returns-clause-ready : goal.returns-clause-ready
returns-clause-ready c = c.loop-gone.invariant.ready

pub returns-clause-left : goal.returns-clause-left
returns-clause-left c =
    all_gone c.args.desk.now c.args.planners c.args.workers c.loop-gone._gone c.args.main.now.seen c.loop-gone.main c.loop-gone.actors c.loop-gone.invariant
    c.loop-gone-test.false
