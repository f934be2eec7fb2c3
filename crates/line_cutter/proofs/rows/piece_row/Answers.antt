use Rattle.std.proofs.Common.{◌≡◌, ◌+◌, [], ◌∷◌, ap, ◌∙◌, subst}
use Rattle.std.specs.Prelude.{codes, decimal}
use Rattle.row_text.specs.SheetRows.{Row}
use Rattle.row_text.specs.Adds.{Adds}
use Rattle.row_text.proofs.Adds.{adds_one}
use Rattle.line_cutter.specs.Rows.{block_at, piece_row}
use Rattle.line_cutter.proofs.rows.piece_row.Goals as goal

pub returns : goal.returns
returns c =
    let section = c.args.section.now in
    let first = c.block_at.ensures ∙ ap (block_at section) c.first_block-first.ensures in
    let last = c.block_at-2.ensures in
    let written : Row =
    codes "piece" ∷ section.name ∷ decimal (c.args.k + 1) ∷ c.block_at.result.now ∷ c.block_at-2.result.now ∷ [] in
    let is : written ≡ piece_row section c.args.ends.now c.args.k =
    λ i. codes "piece" ∷ section.name ∷ decimal (c.args.k + 1) ∷ first i ∷ last i ∷ [] in
    subst (λ row. Adds c.write.result c.args.sheet.now c.write.new.self (row ∷ [])) is
    (adds_one c.args.sheet.now c.write.new.self written c.write.result c.write.ensures.ok c.write.ensures.err)
