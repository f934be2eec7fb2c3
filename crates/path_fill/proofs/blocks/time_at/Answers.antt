use Rattle.std.proofs.Common.{◌≡◌, rules, sym, ap, ◌∙◌, to_z, of_z, w64}
use Rattle.std.specs.Prelude.{ℤ, ◌-ℤ◌, Some}
use Rattle.rail_model.specs.declared.stair.Use.{Use}
use Rattle.plan_model.specs.Members.{member}
use Rattle.path_fill.proofs.BlockUses.{at_none, at_some}
use Rattle.path_fill.proofs.blocks.time_at.Goals as goal

pub returns-in-Some-clause-is : goal.returns-in-Some-clause-is
returns-in-Some-clause-is c =
    let cut = c.args.cut.now in
    let row = member cut c.args.row in
    let one = c.in-Some.one in
    let f = λ (u : Use). u.«end» -ℤ u.start in
    let cast : to_z w64 (of_z w64 c.time_of.result) ≡ c.time_of.result = search rules in
    let is : c.time_of.result ≡ f one = c.time_of.ensures.is in
    ap (λ (x : ℤ). Some x) (cast ∙ is) ∙ at_some row c.args.block one f (sym c.use_at.ensures.is ∙ c.in-Some.is)

pub returns-in-None-clause-is : goal.returns-in-None-clause-is
returns-in-None-clause-is c =
    let row = member c.args.cut.now c.args.row in
    at_none row c.args.block _ (sym c.use_at.ensures.is ∙ c.in-None.is)
