use Rattle.std.proofs.Common.{◌≡◌, ◌≤◌, [], sym, ap, subst}
use Rattle.std.specs.Prelude.{Bool, IsTrue, ◌↔◌, option_map, None}
use Rattle.plan_model.specs.declared.limits.TheConstants.{MEMBERS}
use Rattle.plan_model.specs.declared.cut.Cut.{Cut}
use Rattle.plan_model.specs.declared.answer.Plan.{Plan}
use Rattle.plan_model.specs.declared.answer.Answer.{Answer}
use Rattle.plan_model.specs.declared.answer.Answer.TheVariants.{Ordered}
use Rattle.plan_model.specs.Members.{member_count}
use Rattle.plan_model.specs.Cut.{IsSoundCut}
use Rattle.plan_model.specs.Disorder.{opposite_pair, opposite_of, remaining}
use Rattle.plan_model.specs.Answer.{IsAnswer}
use Rattle.critical_chain.specs.Checked.{IsChecked}
use Rattle.critical_chain.proofs.Checked.{checked_is_compressed}
use Rattle.critical_chain.proofs.answered.is_ordered.Goals as goal

-- an ordered answer is that of a cut whose members have an order where its plan is what is looked for
ordered : (cut : Cut) (plan : Plan) (r : Bool) → IsSoundCut cut → member_count cut ≤ MEMBERS → opposite_pair cut ≡ None
    → remaining cut ≡ [] → IsTrue r ↔ IsChecked cut plan → IsTrue r ↔ IsAnswer cut (Ordered plan)
ordered cut plan r sound few none order is = (
  λ t. (few, ap (option_map (opposite_of cut)) none, order, (checked_is_compressed cut plan sound order).0 (is.0 t)),
  λ a. is.1 ((checked_is_compressed cut plan sound order).1 a.3),
)

pub returns-in-Ordered : goal.returns-in-Ordered
returns-in-Ordered c =
    let cut = c.args.cut.now in
    let r = c.is_checked.result in
    subst (λ (a : Answer). IsTrue r ↔ IsAnswer cut a) (sym c.in-Ordered.is)
    (ordered cut c.in-Ordered.plan r c.requires.sound c.requires.few c.requires.none c.requires.order c.is_checked.ensures)
