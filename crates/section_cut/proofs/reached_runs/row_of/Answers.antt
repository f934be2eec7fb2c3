use Rattle.std.proofs.Common.{sym, ap, ◌∙◌, subst}
use Rattle.std.specs.Prelude.{find}
use Rattle.std.proofs.lemmas.Option.{get_or_from_slice_get}
use Rattle.rail_model.specs.declared.items.Run.{Run}
use Rattle.rail_model.specs.Name.{is_same}
use Rattle.rail_model.specs.Tables.{no_run}
use Rattle.plan_model.specs.declared.cut.CutRow.{CutRow}
use Rattle.section_cut.specs.Stamps.{AreBefore, IsReached}
use Rattle.section_cut.proofs.reached_runs.row_of.Goals as goal

pub next_row-requires-clause-before : goal.next_row-requires-clause-before
next_row-requires-clause-before c =
    subst (λ (r : Run). AreBefore c.args.rows.now r.name c.args.at.now)
    (get_or_from_slice_get c.args.tables.now.runs c.args.run c.run.result.now no_run c.run.ensures) c.requires.before

pub returns-clause-at : goal.returns-clause-at
returns-clause-at c =
    subst (λ (r : Run). IsReached c.args.rows.now r.name c.next_row.new.at)
    (sym (get_or_from_slice_get c.args.tables.now.runs c.args.run c.run.result.now no_run c.run.ensures)) c.next_row.ensures.at

pub returns-clause-own : goal.returns-clause-own
returns-clause-own c =
    c.next_row.ensures.own
    ∙ ap (λ (r : Run). find (λ (o : CutRow). is_same o.name r.name) c.args.rows.now)
    (sym (get_or_from_slice_get c.args.tables.now.runs c.args.run c.run.result.now no_run c.run.ensures))
