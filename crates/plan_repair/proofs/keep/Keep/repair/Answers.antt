use Rattle.std.proofs.Common.{sym, subst, rules}
use Rattle.plan_model.specs.declared.cut.Cut.{Cut}
use Rattle.plan_repair.specs.Origin.{StoodAmong}
use Rattle.plan_repair.proofs.Standing.{held_before}
use Rattle.plan_repair.proofs.keep.Keep.repair.Goals as goal

pub returns-then-is_crowded-clause-keep : goal.returns-then-is_crowded-clause-keep
returns-then-is_crowded-clause-keep g c = search rules

pub answer_held-requires-clause-held : goal.answer_held-requires-clause-held
answer_held-requires-clause-held g c =
    let kept = c.self.inside.rows in
    let origin = c.in_ok-cut.field-0.origin.items in
    let from = subst (λ (k : Cut). StoodAmong kept k.rows origin) (sym c.in_ok-cut.ensures.cut) c.in_ok-cut.ensures.origin in
    rw c.deref.ensures.value (held_before kept c.in_ok-cut.field-0.cut origin c.self.inside.held from c.self.invariant.held)
