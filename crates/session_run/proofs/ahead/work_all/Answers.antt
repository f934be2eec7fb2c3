use Rattle.std.proofs.Common.{rules, of_calls, subst, get_or}
use Rattle.session_run.specs.Ahead.{IsWorkedOut}
use Rattle.session_run.proofs.ahead.work_all.Goals as goal

pub returns : goal.returns
returns g c = record {
  count = c.for_each_mut.auto.s;
  each = λ i d l.
      let h = (c.for_each_mut.ensures i d l).1 in
      let work : IsWorkedOut h.argument.now h.after_call.now = search (rules, of_calls) in
      subst (λ a. IsWorkedOut a (get_or c.for_each_mut.new.s i d)) h.argument_is (subst (IsWorkedOut h.argument.now) h.left work);
}
