use Rattle.std.proofs.Common.{◌≡◌, ℕ, List, [], ◌∷◌, OnOk, ◌∙◌, subst}
use Rattle.std.specs.Prelude.{codes}
use Rattle.row_text.specs.SheetRows.{with_row}
use Rattle.capacity_cmd.proofs.made.occupancy_row.Goals as goal

pub returns : goal.returns
returns c =
    subst (λ (text : List ℕ). OnOk c.write.result (c.write.new.self ≡ with_row c.args.sheet.now (codes "occupancy" ∷ text ∷ [])))
    (c.as_bytes.ensures.value ∙ c.in_ok-sum.ensures) c.write.ensures.ok
