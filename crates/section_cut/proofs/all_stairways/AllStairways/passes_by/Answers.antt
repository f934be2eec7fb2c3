use Rattle.std.proofs.Common.{length, sym, subst, ap, ◌∙◌, arith}
use Rattle.rail_model.specs.Conflict.{stair_at}
use Rattle.section_cut.specs.Starts.{StartsBetween, StartsOutside}
use Rattle.section_cut.proofs.Starts.{starts_outside}
use Rattle.section_cut.proofs.all_stairways.AllStairways.passes_by.Goals as goal

pub returns : goal.returns
returns c outside =
    let own = c.self.inside in
    let starts = c.index.result.now in
    let uses = (stair_at own.stairs c.args.n).uses in
    let between = subst (λ s. StartsBetween s uses) (sym c.index.ensures) (c.self.invariant.between.each c.args.n starts (omega (arith, c.requires, ap length c.self.view_is))) in
    subst (λ stairs. StartsOutside c.args.section.now (stair_at stairs c.args.n).uses) c.self.view_is
    (starts_outside starts c.args.section.now uses between (sym c.is_outside.ensures ∙ outside))
