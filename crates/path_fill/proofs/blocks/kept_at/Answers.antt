use Rattle.std.proofs.Common.{◌≡◌, rules, sym, ap, ◌∙◌, to_z, of_z, w64}
use Rattle.std.specs.Prelude.{ℤ, ◌-ℤ◌, ◌+ℤ◌, Some, None, slice_index_or}
use Rattle.rail_model.specs.declared.stair.Use.{Use}
use Rattle.plan_model.specs.Members.{member}
use Rattle.plan_model.specs.declared.cut.CutRow.{CutRow}
use Rattle.path_fill.specs.Search.{start_of}
use Rattle.path_fill.proofs.BlockUses.{at_none, at_some}
use Rattle.path_fill.proofs.blocks.kept_at.Goals as goal

pub returns-in-Some-clause-is : goal.returns-in-Some-clause-is
returns-in-Some-clause-is c =
    let cut = c.args.cut.now in
    let row = member cut c.args.row in
    let one = c.in-Some.one in
    let start = start_of (slice_index_or c.args.spans.now c.args.block None) in
    let planned = ap (λ (r : CutRow). one.«end» -ℤ r.entry +ℤ c.args.entry) c.row.ensures.row in
    let shifted : c.shift-end.result ≡ (one.«end» -ℤ c.row.result.now.entry +ℤ c.args.entry) = search rules in
    let begins : c.start_of.result ≡ start = search rules in
    let kept : c.from_to.result ≡ (c.shift-end.result -ℤ c.start_of.result) = search rules in
    let cast : to_z w64 (of_z w64 c.from_to.result) ≡ c.from_to.result = search rules in
    let is : to_z w64 (of_z w64 c.from_to.result) ≡ ((one.«end» -ℤ row.entry +ℤ c.args.entry) -ℤ start) =
    cast ∙ kept ∙ ap (λ x. c.shift-end.result -ℤ x) begins ∙ ap (λ x. x -ℤ start) (shifted ∙ planned) in
    ap (λ (x : ℤ). Some x) is
    ∙ at_some row c.args.block one
    (λ (u : Use). (u.«end» -ℤ row.entry +ℤ c.args.entry) -ℤ start_of (slice_index_or c.args.spans.now c.args.block None))
    (sym c.use_at.ensures.is ∙ c.in-Some.is)

pub returns-in-None-clause-is : goal.returns-in-None-clause-is
returns-in-None-clause-is c =
    let row = member c.args.cut.now c.args.row in
    at_none row c.args.block _ (sym c.use_at.ensures.is ∙ c.in-None.is)
