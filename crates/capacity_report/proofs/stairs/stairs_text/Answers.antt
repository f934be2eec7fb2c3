use Rattle.std.proofs.Common.{[], ◌∷◌, length, ap, ◌∙◌, arith}
use Rattle.std.proofs.lemmas.List.{length-map}
use Rattle.std.proofs.lemmas.Result.{IfOk-weaker}
use Rattle.rail_model.specs.declared.items.Block.{Block}
use Rattle.line_tables.proofs.PathsOf.{paths_count}
use Rattle.row_text.specs.SheetRows.{text_of_rows}
use Rattle.capacity_report.proofs.Rows.{rows_of_all}
use Rattle.capacity_report.proofs.stairs.stairs_text.Goals as goal

pub text_of_paths-requires-clause-count : goal.text_of_paths-requires-clause-count
text_of_paths-requires-clause-count g c =
    omega (arith, c.runs.ensures.count, paths_count c.args.tables.now c.in_ok-paths.paths c.in_ok-paths.ensures.same)

pub text_of_paths-requires-clause-named : goal.text_of_paths-requires-clause-named
text_of_paths-requires-clause-named g c κs inside n d on k e within =
    omega (
      arith,
      c.in_ok-paths.ensures.numbered n d on k e within,
      length-map c.args.tables.now.blocks (λ (b : Block). b.name ∷ []),
      ap length (c.deref.ensures.value ∙ c.in_ok-names.ensures),
    )

pub returns : goal.returns
returns g c =
    IfOk-weaker c.text_of_paths.result _ _
    (λ text is. is ∙ ap text_of_rows (rows_of_all c.args.tables.now c.deref.result.now c.in_ok-paths.paths c.runs.result
    (c.deref.ensures.value ∙ c.in_ok-names.ensures) c.in_ok-paths.ensures.same c.runs.ensures.count))
    c.text_of_paths.ensures
