use Rattle.std.proofs.Common.{None, get_or, ap, ◌∙◌}
use Rattle.std.proofs.lemmas.List.{get_or_default}
use Rattle.section_cut.specs.ReachedRuns.{uses_if_there}
use Rattle.section_cut.specs.Spans.{part_of}
use Rattle.section_cut.proofs.reached_runs.looked_at.Goals as goal

pub returns : goal.returns
returns c =
    let stairs = c.args.stairs.now in
    c.part.ensures
    ∙ ap (part_of (get_or c.args.spans.now c.args.n None))
    (c.uses_if_there.ensures ∙ ap uses_if_there (c.index-stairs-n.is ∙ get_or_default stairs c.args.n c.index-stairs-n.result None c.requires))
