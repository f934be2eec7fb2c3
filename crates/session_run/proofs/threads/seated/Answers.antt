use Rattle.std.proofs.Common.{◌+◌, None, refl, sym, subst, rules}
use Rattle.session_run.proofs.Seating.{IsSeating, pass_left, is_new_pass, seated_one}
use Rattle.session_run.proofs.Running.{none_seated, none_popped, all_seated}
use Rattle.session_run.proofs.threads.seated.Goals as goal

pub loop-place-init : goal.loop-place-init
loop-place-init c = none_seated c.args.desk.now c.args.planners c.args.workers c.args.passes _ (search rules) c.requires.passes

pub unreachable-requires : goal.unreachable-requires
unreachable-requires c =
    none_popped None c.loop-place.passes refl c.in_default.ensures.some
    (pass_left c.args.desk.now c.args.planners c.args.workers c.loop-place.place c.loop-place.passes c.loop-place.actors.items c.loop-place.invariant c.loop-place-test.true)

pub actor_of-requires-clause-pass : goal.actor_of-requires-clause-pass
actor_of-requires-clause-pass c =
    is_new_pass c.args.desk.now c.args.planners c.args.workers c.loop-place.place c.loop-place.passes _ c.in-Some.pass c.loop-place.actors.items
    c.loop-place.invariant c.loop-place-test.true c.in-Some.ensures.items

pub loop-place-preserved : goal.loop-place-preserved
loop-place-preserved c =
    subst (IsSeating c.args.desk.now c.args.planners c.args.workers (c.loop-place.place + 1) c.pop.new.self) (sym c.in_ok-push.ensures.items)
    (seated_one c.args.desk.now c.args.planners c.args.workers c.loop-place.place c.loop-place.passes c.pop.new.self c.in-Some.pass c.loop-place.actors.items
    c.loop-place.invariant c.loop-place-test.true c.in-Some.ensures.items c.actor_of.result c.actor_of.ensures)

pub returns : goal.returns
returns c =
    all_seated c.args.desk.now c.args.planners c.args.workers c.loop-place.place c.loop-place.passes c.loop-place.actors.items c.loop-place.invariant
    c.loop-place-test.false c.loop-place.auto.place-end
