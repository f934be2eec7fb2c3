use Rattle.std.proofs.Common.{rules, of_calls, subst, sym, get_or}
use Rattle.session_run.specs.Acting.{IsWorking, WorksOn}
use Rattle.session_run.proofs.threads.work_all.Goals as goal

pub for_each_mut-requires-clause-accepts : goal.for_each_mut-requires-clause-accepts
for_each_mut-requires-clause-accepts g c =
    λ _ _ i p l is. (
      subst IsWorking (sym is) (c.requires.working i p.now l),
      (record { shared = c.type_bounds.sync-R.shared }, record { shared = c.type_bounds.sync-G.shared }),
    )

pub returns : goal.returns
returns g c = record {
  count = c.for_each_mut.auto.s;
  each = λ i d l.
      let h = (c.for_each_mut.ensures i d l).1 in
      let work : WorksOn h.argument.now h.after_call.now = search (rules, of_calls) in
      subst (λ a. WorksOn a (get_or c.for_each_mut.new.s i d)) h.argument_is (subst (WorksOn h.argument.now) h.left work);
}
