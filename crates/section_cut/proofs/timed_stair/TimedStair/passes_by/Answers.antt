use Rattle.std.proofs.Common.{sym, subst, ◌∙◌}
use Rattle.section_cut.specs.Starts.{StartsOutside}
use Rattle.section_cut.proofs.Starts.{starts_outside}
use Rattle.rail_model.specs.declared.stair.Stair.{Stair}
use Rattle.section_cut.proofs.timed_stair.TimedStair.passes_by.Goals as goal

pub returns : goal.returns
returns c outside =
    let own = c.self.inside in
    subst (λ (s : Stair). StartsOutside c.args.section.now s.uses) c.self.view_is
    (starts_outside own.starts c.args.section.now own.stair.uses c.self.invariant.between (sym c.is_outside.ensures ∙ outside))
