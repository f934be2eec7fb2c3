use Rattle.std.proofs.Common.{sym, subst}
use Rattle.std.specs.Prelude.{All, IfOk}
use Rattle.section_cut.specs.Change.{TwoTables}
use Rattle.plan_book.specs.Changes.{HasCutOf, AreChanges}
use Rattle.plan_book.proofs.changes.changes_of.Goals as goal

pub each_change-requires : goal.each_change-requires
each_change-requires c = subst (λ (t : TwoTables). All (HasCutOf t.before) c.args.shelves.now) (sym c.in_ok-made.ensures) c.requires.cuts

pub returns : goal.returns
returns c =
    subst (λ (t : TwoTables). IfOk c.each_change.result (AreChanges t.before t.after c.args.accepted.number c.args.shelves.now)) c.in_ok-made.ensures c.each_change.ensures
