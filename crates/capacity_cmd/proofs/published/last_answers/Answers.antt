use Rattle.std.proofs.Common.{◌≡◌, length, map, replicate, option_copied, None, refl, ap, ◌∙◌, rules}
use Rattle.capacity_cmd.proofs.LastAnswers.{none_yet}
use Rattle.capacity_cmd.proofs.published.last_answers.Goals as goal

pub loop-entry-init : goal.loop-entry-init
loop-entry-init c =
    let sections = c.args.tables.now.sections in
    let none : c.in_ok-last.last.items ≡ replicate (length sections) None = search rules in
    ap (map option_copied) none ∙ none_yet option_copied None sections refl
