use Rattle.std.proofs.Common.{rules, of_calls, subst, get_or}
use Rattle.capacity_report.specs.Pieces.{IsFilled}
use Rattle.capacity_report.proofs.journal_pieces.fill_all.Goals as goal

pub returns : goal.returns
returns g c = record {
  count = c.for_each_mut.auto.s;
  each = λ i d l.
      let h = (c.for_each_mut.ensures i d l).1 in
      let filled : IsFilled h.argument.now h.after_call.now = search (rules, of_calls) in
      subst (λ p. IsFilled p (get_or c.for_each_mut.new.s i d)) h.argument_is (subst (IsFilled h.argument.now) h.left filled);
}
