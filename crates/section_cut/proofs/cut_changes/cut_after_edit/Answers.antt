use Rattle.std.proofs.Common.{subst}
use Rattle.std.specs.Prelude.{IfOk}
use Rattle.std.specs.Option.{option_copied}
use Rattle.plan_model.specs.Cut.{cut_of}
use Rattle.section_cut.specs.Change.{TwoTables, IsChange}
use Rattle.section_cut.proofs.cut_changes.cut_after_edit.Goals as goal

pub returns : goal.returns
returns c =
    let section = c.args.section.now in
    subst (λ (t : TwoTables). IfOk c.cut_after.result (IsChange (cut_of t.before section) (cut_of t.after section) c.args.number (option_copied c.args.cut)))
    c.in_ok-changes.ensures c.cut_after.ensures
