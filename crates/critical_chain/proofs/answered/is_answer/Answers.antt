use Rattle.std.proofs.Common.{sym, ap, subst, ◌∙◌}
use Rattle.std.specs.Prelude.{Some}
use Rattle.plan_model.specs.Disorder.{ring_members}
use Rattle.train_order.specs.Ordering.{IsDisorder}
use Rattle.critical_chain.proofs.answered.is_answer.Goals as goal

pub is_ring-requires-clause-members : goal.is_ring-requires-clause-members
is_ring-requires-clause-members c =
    let is = subst (λ found. IsDisorder c.args.cut.now (Some found)) c.in-Some-Ring.field-0-is c.in-Some-Ring.ensures.disorder in
    c.slice.ensures ∙ is.2 ∙ ap ring_members (sym c.of-fit.ensures)
