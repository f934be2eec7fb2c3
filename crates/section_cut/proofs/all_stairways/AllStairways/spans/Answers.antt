use Rattle.std.proofs.Common.{map, subst}
use Rattle.rail_model.specs.declared.stair.Stair.{Stair}
use Rattle.section_cut.specs.Spans.{AreSpans}
use Rattle.section_cut.proofs.all_stairways.AllStairways.spans.Goals as goal

pub returns : goal.returns
returns c =
    subst (λ stairs. AreSpans c.args.positions.now c.args.blocks (map (λ (s : Stair). s.uses) stairs) c.in_ok-spans.spans.items) c.self.view_is
    (c.in_ok-spans.ensures (map (λ (s : Stair). s.uses) c.self.inside.stairs) c.self.invariant.listed)
