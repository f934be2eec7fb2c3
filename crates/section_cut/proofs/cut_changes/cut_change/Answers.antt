use Rattle.std.proofs.Common.{◌∙◌, subst}
use Rattle.std.specs.Option.{option_copied}
use Rattle.plan_model.specs.Cut.{cut_of}
use Rattle.section_cut.specs.Change.{IsChange}
use Rattle.section_cut.proofs.SameValue.{untouched_is}
use Rattle.section_cut.proofs.cut_changes.cut_change.Goals as goal

pub returns-in-Untouched-clause-cut : goal.returns-in-Untouched-clause-cut
returns-in-Untouched-clause-cut c =
    let section = c.args.section.now in
    let same =
    subst (IsChange (cut_of c.args.before.now section) (cut_of c.args.after.now section) c.args.number (option_copied c.as_ref.result))
    c.in-Untouched.is c.in_ok-cut_after_edit.ensures in
    untouched_is c.args.after.now c.learn_sound.ensures section c.args.number c.args.cut.now (same ∙ c.requires.cut)
