use Rattle.std.proofs.Common.{◌+◌, length, refl, sym, ap, ◌∙◌, subst, arith}
use Rattle.std.specs.Prelude.{All, IfOk, OnErr}
use Rattle.plan_model.specs.declared.journal.Entry.{Entry}
use Rattle.plan_model.proofs.Legality.{legal_has_one}
use Rattle.turn_desk.specs.Known.{Known}
use Rattle.session_run.specs.Acting.{IsWorking, AllWorkOn, AreActors}
use Rattle.plan_model.specs.Journal.{opening, issued}
use Rattle.turn_desk.specs.Entering.{EntersAll, EntersNone}
use Rattle.session_run.proofs.Entered.{pass_of}
use Rattle.session_run.proofs.Starting.{not_full, has_entered}
use Rattle.session_run.proofs.Running.{one_issued, started_by_main, entered_passes, all_working, still_actors, written_back, session_closes}
use Rattle.session_run.proofs.threads.session.Goals as goal

pub start-requires-2-clause-alone : goal.start-requires-2-clause-alone
start-requires-2-clause-alone g c = one_issued c.args.tables c.args.at c.args.scripts c.in_ok-book.book c.in_ok-book.ensures

pub start-requires-2-clause-zero : goal.start-requires-2-clause-zero
start-requires-2-clause-zero g c = started_by_main c.args.tables c.args.at c.args.scripts c.in_ok-book.book c.in_ok-book.ensures

pub enter-requires : goal.enter-requires
enter-requires g c = rw c.in_ok-desk.ensures (record { desk_is = refl; idle = refl })

pub unreachable-requires : goal.unreachable-requires
unreachable-requires g c =
    let count = c.planners-planners.ensures ∙ ap (λ j. length (opening j).scripts) c.in_ok-book.ensures in
    not_full c.args.tables c.args.at c.args.scripts c.in_ok-book.book c.in_ok-desk.desk c.in_ok-desk.main c.enter.new.pass
    (c.planners-planners.result + c.args.workers) c.enter.ensures.legal.legal c.in_ok-book.ensures c.in_ok-desk.ensures
    (omega (arith, count, c.requires.planners, c.requires.most))
    (subst (λ r. OnErr r (EntersNone pass_of issued c.in_ok-desk.main c.enter.new.pass (c.planners-planners.result + c.args.workers))) c.in_default.is
    c.in_ok-passes.ensures.full)

pub seated-requires-clause-passes : goal.seated-requires-clause-passes
seated-requires-clause-passes g c =
    let count = c.planners-planners.ensures ∙ ap (λ j. length (opening j).scripts) c.in_ok-book.ensures in
    let many = c.planners-planners.result + c.args.workers in
    entered_passes c.args.tables c.args.at c.args.scripts c.in_ok-desk.desk c.enter.new.pass c.planners-planners.result c.args.workers
    c.in-Ok.passes count c.enter.ensures.legal
    (has_entered c.args.tables c.args.at c.args.scripts c.in_ok-book.book c.in_ok-desk.desk c.in_ok-desk.main c.enter.new.pass many c.enter.ensures.legal.legal
    c.in_ok-book.ensures c.in_ok-desk.ensures c.in-Ok.passes
    (subst (λ r. IfOk r (EntersAll pass_of issued c.in_ok-desk.main c.enter.new.pass many)) c.in-Ok.is c.in_ok-passes.ensures.ok))

pub work_all-requires-clause-some : goal.work_all-requires-clause-some
work_all-requires-clause-some g c =
    let are : AreActors c.in_ok-desk.desk c.planners-planners.result c.args.workers c.in_ok-actors.actors.items = c.in_ok-actors.ensures in
    λ _ _. omega (arith, are.count, ap length c.deref_mut.ensures.value, c.requires.some)

pub work_all-requires-clause-working : goal.work_all-requires-clause-working
work_all-requires-clause-working g c =
    let are : AreActors c.in_ok-desk.desk c.planners-planners.result c.args.workers c.in_ok-actors.actors.items = c.in_ok-actors.ensures in
    λ _ _. subst (All IsWorking) (sym c.deref_mut.ensures.value)
    (all_working c.in_ok-desk.desk c.planners-planners.result c.args.workers c.in_ok-actors.actors.items are)

pub leave_all-requires-clause-actors : goal.leave_all-requires-clause-actors
leave_all-requires-clause-actors g c =
    let are : AreActors c.in_ok-desk.desk c.planners-planners.result c.args.workers c.in_ok-actors.actors.items = c.in_ok-actors.ensures in
    let items = c.in_ok-actors.actors.items in
    let new = c.work_all.new.actors in
    let work : AllWorkOn items new = subst (λ old. AllWorkOn old new) c.deref_mut.ensures.value c.work_all.ensures in
    subst (AreActors c.in_ok-desk.desk c.planners-planners.result c.args.workers)
    (sym (written_back items new c.in_ok-actors.actors.len
    (omega (arith, c.deref_mut.ensures.len, ap length c.deref_mut.ensures.value)) work.count))
    (still_actors c.in_ok-desk.desk c.planners-planners.result c.args.workers items new are work)

pub leave_all-requires-clause-ready : goal.leave_all-requires-clause-ready
leave_all-requires-clause-ready g c = record {
  desk_is = c.enter.ensures.pass.desk ∙ ap (λ (k : Known Entry). k.desk) c.in_ok-desk.ensures;
  idle = c.enter.ensures.idle;
}

pub leave_all-requires-clause-own : goal.leave_all-requires-clause-own
leave_all-requires-clause-own g c = c.enter.ensures.pass.numbers ∙ ap (λ (k : Known Entry). k.numbers) c.in_ok-desk.ensures

pub leave_all-requires-clause-seen : goal.leave_all-requires-clause-seen
leave_all-requires-clause-seen g c = legal_has_one c.enter.new.pass.seen c.enter.ensures.legal.legal

pub close-requires : goal.close-requires
close-requires g c = c.in_ok-leave_all.ensures.ready

pub returns : goal.returns
returns g c =
    let count = c.planners-planners.ensures ∙ ap (λ j. length (opening j).scripts) c.in_ok-book.ensures in
    let many = c.planners-planners.result + c.args.workers in
    session_closes c.args.tables c.args.at c.args.scripts c.planners-planners.result c.args.workers c.in_ok-desk.desk c.enter.new.pass c.leave_all.new.main
    c.in-Ok.passes c.close.result c.requires.some count
    (has_entered c.args.tables c.args.at c.args.scripts c.in_ok-book.book c.in_ok-desk.desk c.in_ok-desk.main c.enter.new.pass many c.enter.ensures.legal.legal
    c.in_ok-book.ensures c.in_ok-desk.ensures c.in-Ok.passes
    (subst (λ r. IfOk r (EntersAll pass_of issued c.in_ok-desk.main c.enter.new.pass many)) c.in-Ok.is c.in_ok-passes.ensures.ok))
    c.in_ok-leave_all.ensures.left c.close.ensures.goes_on c.close.ensures.legal
