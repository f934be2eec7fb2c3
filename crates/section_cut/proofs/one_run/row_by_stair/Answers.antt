use Rattle.std.proofs.Common.{◌<◌, length, Some, refl, sym, subst}
use Rattle.std.specs.Prelude.{All, IfSome}
use Rattle.rail_model.specs.declared.stair.Stair.{Stair}
use Rattle.rail_model.specs.declared.stair.Use.{Use}
use Rattle.plan_model.specs.Cut.{position_in_section}
use Rattle.section_cut.specs.OneRun.{PassesBy}
use Rattle.section_cut.proofs.OneRun.{uses_found}
use Rattle.section_cut.proofs.Outside.{outside_not_entered, early_not_entered}
use Rattle.section_cut.proofs.PassedBy.{passed_by, section_there, section_is}
use Rattle.section_cut.proofs.one_run.row_by_stair.Goals as goal

pub unreachable-requires : goal.unreachable-requires
unreachable-requires c =
    section_there c.args.tables.now c.args.section.now.name c.args.section.now c.requires.section (sym c.in_default.ensures.there)

pub enters_early-requires : goal.enters_early-requires
enters_early-requires c =
    let tables = c.args.tables.now in
    subst (λ o. IfSome o (λ (s : Stair). All (λ (u : Use). u.block < length tables.blocks) s.uses)) (sym c.requires.stair)
    (uses_found tables c.learn_sound.ensures c.args.name.now _ refl)

pub row_by_positions-requires-clause-section : goal.row_by_positions-requires-clause-section
row_by_positions-requires-clause-section c =
    section_is c.args.tables.now c.args.section.now.name c.args.section.now c.requires.section c.in-Some.place c.in-Some.ensures.number

pub row_by_positions-requires-clause-there : goal.row_by_positions-requires-clause-there
row_by_positions-requires-clause-there c =
    let tables = c.args.tables.now in
    subst (λ o. IfSome o (λ (s : Stair). All (λ (u : Use). u.block < length tables.blocks) s.uses)) (sym c.requires.stair)
    (uses_found tables c.learn_sound.ensures c.args.name.now _ refl)

pub returns-then-passes_by : goal.returns-then-passes_by
returns-then-passes_by c =
    let section = c.args.section.now in
    let stays = outside_not_entered section (position_in_section c.args.tables.now section) (length section.blocks) c.args.stair.now.uses
    (c.passes_by.ensures c.if-passes_by.true) in
    rw stays refl

pub returns-then-enters_early : goal.returns-then-enters_early
returns-then-enters_early c =
    let section = c.args.section.now in
    let stays = early_not_entered section (position_in_section c.args.tables.now section) c.args.stair.now.uses
    (c.enters_early.ensures c.if-enters_early.true) in
    rw stays refl

pub returns-then-not-passes : goal.returns-then-not-passes
returns-then-not-passes c =
    let tables = c.args.tables.now in
    let section = c.args.section.now in
    let apart = subst (λ s. PassesBy tables s c.args.name.now)
    (section_is tables section.name section c.requires.section c.in-Some.place c.in-Some.ensures.number) (c.passes.ensures c.if-not-passes.true) in
    sym (passed_by tables c.learn_sound.ensures section c.args.stamp c.args.name.now (Some c.args.stair.now) c.requires.stair apart)
