use Rattle.std.proofs.Common.{◌≡◌, ℕ, List, [], ◌∷◌, ◌++◌, length, set, Ok, rules, refl, ap, ◌∙◌}
use Rattle.std.proofs.Math.Seq.{set-append_seam}
use Rattle.row_text.specs.SheetRows.{field}
use Rattle.row_text.specs.Words.{name_in}
use Rattle.row_text.proofs.lists.push_name.Goals as goal

pub returns-in-Ok-clause-ok : goal.returns-in-Ok-clause-ok
returns-in-Ok-clause-ok c =
    let items = c.args.names.now.items in
    let name = c.set.new.self in
    let at : c.len-at.result ≡ length items = search rules in
    let read : name_in (field c.args.row.now c.args.i) ≡ Ok name = rw (← c.get.ensures, c.in-Ok.ensures.ok) refl in (
      name,
      read,
      ap (λ (xs : List (List ℕ)). set xs c.len-at.result name) c.push_reserved.ensures.items
          ∙ ap (λ k. set (items ++ c.args.other.now ∷ []) k name) at ∙ set-append_seam items c.args.other.now [] name,
    )
