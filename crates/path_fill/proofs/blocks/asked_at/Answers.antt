use Rattle.std.proofs.Common.{◌≡◌, rules, sym, ap, ◌∙◌, to_z, of_z, w64}
use Rattle.std.specs.Prelude.{ℤ, ◌-ℤ◌, Some, None, slice_index_or}
use Rattle.rail_model.specs.declared.stair.Use.{Use}
use Rattle.plan_model.specs.Members.{member}
use Rattle.plan_model.specs.declared.cut.CutRow.{CutRow}
use Rattle.path_fill.specs.Search.{until}
use Rattle.path_fill.proofs.BlockUses.{at_none, at_some}
use Rattle.path_fill.proofs.blocks.asked_at.Goals as goal

pub returns-in-Some-clause-is : goal.returns-in-Some-clause-is
returns-in-Some-clause-is c =
    let cut = c.args.cut.now in
    let row = member cut c.args.row in
    let one = c.in-Some.one in
    let planned : to_z w64 (of_z w64 c.row.result.now.entry) ≡ row.entry =
    (search rules) ∙ ap (λ (r : CutRow). r.entry) c.row.ensures.row in
    let free : to_z w64 (of_z w64 c.until.result) ≡ until (slice_index_or c.args.last.now c.args.block None) =
    search rules in
    let cast : to_z w64 (of_z w64 c.asked.result) ≡ c.asked.result = search rules in
    let is : to_z w64 (of_z w64 c.asked.result)
    ≡ until (slice_index_or c.args.last.now c.args.block None) -ℤ (one.start -ℤ row.entry) =
    cast ∙ c.asked.ensures.is ∙ ap (λ p. to_z w64 (of_z w64 c.until.result) -ℤ (one.start -ℤ p)) planned
    ∙ ap (λ u. u -ℤ (one.start -ℤ row.entry)) free in
    ap (λ (x : ℤ). Some x) is
    ∙ at_some row c.args.block one
    (λ (u : Use). until (slice_index_or c.args.last.now c.args.block None) -ℤ (u.start -ℤ row.entry))
    (sym c.use_at.ensures.is ∙ c.in-Some.is)

pub returns-in-None-clause-is : goal.returns-in-None-clause-is
returns-in-None-clause-is c =
    let row = member c.args.cut.now c.args.row in
    at_none row c.args.block _ (sym c.use_at.ensures.is ∙ c.in-None.is)
