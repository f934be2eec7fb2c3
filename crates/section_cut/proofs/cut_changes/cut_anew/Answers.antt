use Rattle.std.proofs.Common.{Some, sym, ap, ◌∙◌}
use Rattle.std.specs.Prelude.{option_map}
use Rattle.plan_model.specs.Cut.{stamped}
use Rattle.section_cut.proofs.Joined.{cut_found, cut_missing}
use Rattle.section_cut.proofs.cut_changes.cut_anew.Goals as goal

pub returns-in_default-clause-same : goal.returns-in_default-clause-same
returns-in_default-clause-same c =
    sym (ap (option_map (stamped c.args.stamp)) (cut_missing c.args.tables.now c.args.section.now (sym c.in_default.ensures.there)))

pub returns-clause-same : goal.returns-clause-same
returns-clause-same c =
    ap Some c.in_ok-cut_among.ensures.same
    ∙ sym (ap (option_map (stamped c.args.stamp)) (cut_found c.args.tables.now c.args.section.now c.in-Some.place c.in-Some.ensures.number c.in-Some.ensures.in_range))
