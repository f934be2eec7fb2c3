use Rattle.std.proofs.Common.{◌≡◌, sym, ap, ◌∙◌, subst}
use Rattle.std.specs.Prelude.{IfSome}
use Rattle.rail_model.specs.Rules as rules
use Rattle.plan_book.proofs.twin.TwinTables.replace.Goals as goal

pub invariant_of-self : goal.invariant_of-self
invariant_of-self c =
    let next : rules.after c.replace-old.result.value c.args.edit ≡ c.replace-old.new.dest.value =
    ap (λ t. rules.after t c.args.edit) (ap (λ b. b.value) c.replace-old.ensures.value ∙ c.self.view_is)
    ∙ sym c.requires
    ∙ ap (λ b. b.value) (sym c.replace-old.ensures.after) in
    subst (λ t. IfSome c.after_edit.result (λ spare. spare.value ≡ t)) next c.after_edit.ensures
