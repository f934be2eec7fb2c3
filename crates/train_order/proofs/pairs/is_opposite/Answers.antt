use Rattle.std.proofs.Common.{◌≡◌, ◌&&◌, All, rules, sym, ap, subst, ◌∙◌, to_z, of_z, w64}
use Rattle.std.specs.Prelude.{nat_lt, ◌<ℤ◌}
use Rattle.std.specs.List.{list_any}
use Rattle.rail_model.specs.declared.stair.Use.{Use}
use Rattle.plan_model.specs.declared.cut.CutRow.{CutRow}
use Rattle.train_order.specs.OutOfTurn.{leads_at, trails_at}
use Rattle.train_order.proofs.Beside.{opposite_is, none_opposite}
use Rattle.train_order.proofs.pairs.is_opposite.Goals as goal

pub returns-then-are_before : goal.returns-then-are_before
returns-then-are_before c =
    let cast : to_z w64 (of_z w64 c.args.first) ≡ c.args.first = search rules in
    none_opposite c.args.cut.now c.row.ensures.sound c.args.i c.args.j c.requires.one c.requires.other c.args.starts.now c.args.first
    c.requires.starts c.slice-uses.result.now (c.slice-uses.ensures ∙ ap (λ (r : CutRow). r.uses) c.row.ensures.row)
    (subst (λ m. All (λ (u : Use). u.start <ℤ m) c.slice-uses.result.now) cast (c.are_before.ensures.0 c.if-are_before.true))

pub returns-then-leads_somewhere : goal.returns-then-leads_somewhere
returns-then-leads_somewhere c =
    ap (λ b. b && c.trails_somewhere.result) (sym c.if-leads_somewhere.true ∙ c.leads_somewhere.ensures)
    ∙ ap (λ b. list_any (leads_at (nat_lt c.args.i c.args.j) c.args.starts.now) c.slice-uses.result.now && b) c.trails_somewhere.ensures
    ∙ opposite_is c.args.cut.now c.row.ensures.sound c.args.i c.args.j c.requires.one c.requires.other c.args.starts.now c.args.first
    c.requires.starts c.slice-uses.result.now (c.slice-uses.ensures ∙ ap (λ (r : CutRow). r.uses) c.row.ensures.row)

pub returns-else-leads_somewhere : goal.returns-else-leads_somewhere
returns-else-leads_somewhere c =
    c.if-leads_somewhere.false
    ∙ ap (λ b. b && list_any (trails_at (nat_lt c.args.j c.args.i) c.args.starts.now) c.slice-uses.result.now)
    (sym c.if-leads_somewhere.false ∙ c.leads_somewhere.ensures)
    ∙ opposite_is c.args.cut.now c.row.ensures.sound c.args.i c.args.j c.requires.one c.requires.other c.args.starts.now c.args.first
    c.requires.starts c.slice-uses.result.now (c.slice-uses.ensures ∙ ap (λ (r : CutRow). r.uses) c.row.ensures.row)
