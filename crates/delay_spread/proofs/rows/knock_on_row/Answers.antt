use Rattle.std.proofs.Common.{[], ◌∷◌, subst}
use Rattle.row_text.specs.Adds.{Adds}
use Rattle.row_text.proofs.Adds.{adds_one}
use Rattle.delay_spread.specs.Spreading.{knock_on_row}
use Rattle.delay_spread.proofs.rows.knock_on_row.Goals as goal

pub returns : goal.returns
returns c =
    let sum = c.args.sum in
    subst (λ n. Adds c.write.result c.args.sheet.now c.write.new.self (knock_on_row n sum ∷ [])) c.from.ensures
    (adds_one c.args.sheet.now c.write.new.self (knock_on_row c.from.result sum) c.write.result c.write.ensures.ok
    c.write.ensures.err)
