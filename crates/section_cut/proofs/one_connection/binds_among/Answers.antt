use Rattle.std.proofs.Common.{sym, ap, ◌∙◌, subst}
use Rattle.std.specs.Prelude.{find}
use Rattle.rail_model.specs.Name.{is_same}
use Rattle.plan_model.specs.declared.cut.CutRow.{CutRow}
use Rattle.section_cut.specs.Connected.{HasEntryOf}
use Rattle.section_cut.proofs.one_connection.binds_among.Goals as goal

pub binds-requires-clause-first : goal.binds-requires-clause-first
binds-requires-clause-first c =
    let name = c.args.connection.now.first in
    subst (HasEntryOf c.args.tables.now c.args.old.now.section name)
    (sym (c.row_named-first.ensures ∙ ap (find (λ (r : CutRow). is_same r.name name)) c.slice-rows.ensures)) (c.requires.entries name c.requires.there.first)

pub binds-requires-clause-second : goal.binds-requires-clause-second
binds-requires-clause-second c =
    let name = c.args.connection.now.second in
    subst (HasEntryOf c.args.tables.now c.args.old.now.section name)
    (sym (c.row_named-second.ensures ∙ ap (find (λ (r : CutRow). is_same r.name name)) c.slice-rows.ensures)) (c.requires.entries name c.requires.there.second)
