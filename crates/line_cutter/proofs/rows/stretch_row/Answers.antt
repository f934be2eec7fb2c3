use Rattle.std.proofs.Common.{◌≡◌, [], ◌∷◌, subst}
use Rattle.std.specs.Prelude.{codes}
use Rattle.row_text.specs.SheetRows.{Row}
use Rattle.row_text.specs.Adds.{Adds}
use Rattle.row_text.proofs.Adds.{adds_one}
use Rattle.line_cutter.specs.Rows.{stretch_row}
use Rattle.line_cutter.proofs.rows.stretch_row.Goals as goal

pub returns : goal.returns
returns c =
    let first = c.block_at.ensures in
    let last = c.block_at-2.ensures in
    let written : Row = codes "stretch" ∷ c.block_at.result.now ∷ c.block_at-2.result.now ∷ [] in
    let is : written ≡ stretch_row c.args.section.now c.args.stretch.now = λ i. codes "stretch" ∷ first i ∷ last i ∷ [] in
    subst (λ row. Adds c.write.result c.args.sheet.now c.write.new.self (row ∷ [])) is
    (adds_one c.args.sheet.now c.write.new.self written c.write.result c.write.ensures.ok c.write.ensures.err)
