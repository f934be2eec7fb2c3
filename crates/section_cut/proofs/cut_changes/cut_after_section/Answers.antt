use Rattle.std.proofs.lemmas.Bool.{both_ways}
use Rattle.section_cut.proofs.Reached.{others_untouched}
use Rattle.section_cut.proofs.cut_changes.cut_after_section.Goals as goal

pub returns-then-not-same_name : goal.returns-then-not-same_name
returns-then-not-same_name c =
    others_untouched c.args.stored.both.before.now c.args.stored.both.after.now c.args.edited.now c.args.stored.section.now c.requires.one
    (λ e. both_ways c.same_name.result c.if-not-same_name.true (c.same_name.ensures.1 e))
