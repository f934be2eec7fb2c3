use Rattle.std.proofs.Common.{◌<◌, ◌++◌, length, All, sym, ap, subst, ◌∙◌, arith}
use Rattle.rail_model.specs.declared.path.Hop.{Hop}
use Rattle.rail_model.specs.declared.path.Path.{Path}
use Rattle.line_tables.specs.Paths.{no_path}
use Rattle.row_text.specs.SheetRows.{SheetRows, text_of_rows}
use Rattle.capacity_report.specs.Blockings.{rows_by_names, rows_at}
use Rattle.capacity_report.specs.Parts.{text_between}
use Rattle.capacity_report.proofs.PartTexts.{rows_none, rows_more}
use Rattle.capacity_report.proofs.stairs.text_of_part.Goals as goal

pub loop-run-init : goal.loop-run-init
loop-run-init c = c.with_room-sheet.ensures.rows ∙ rows_none (rows_at c.args.names.now c.args.paths.now) c.args.part.first

pub run_rows-requires-clause-there : goal.run_rows-requires-clause-there
run_rows-requires-clause-there c =
    subst (λ (p : Path). All (λ (h : Hop). h.block < length c.args.names.now) p.hops) (sym c.in_ok-path.ensures.same)
    (c.requires.named c.loop-run.run no_path (omega (arith, c.loop-run-test.true, c.requires.count)))

pub loop-run-preserved : goal.loop-run-preserved
loop-run-preserved c =
    let names = c.args.names.now in
    rows_more (rows_at names c.args.paths.now) c.args.part.first c.loop-run.run (omega arith) c.loop-run.invariant
    (ap (λ (s : SheetRows). s.rows) c.ask_for_rest.ensures ∙ c.in_ok-run_rows.ensures.rows
    ∙ ap (λ (p : Path). c.loop-run.sheet.rows ++ rows_by_names names p) c.in_ok-path.ensures.same)

pub returns : goal.returns
returns c =
    c.into_text.ensures ∙ ap text_of_rows c.loop-run.invariant
    ∙ ap (text_between (rows_at c.args.names.now c.args.paths.now) c.args.part.first) (omega (arith, c.loop-run-test.false))
