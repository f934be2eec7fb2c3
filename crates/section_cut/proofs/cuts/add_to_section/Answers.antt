use Rattle.std.proofs.Common.{◌+◌, ◌≤◌, length, map, sym, subst}
use Rattle.std.proofs.lemmas.Option.{get_or_from_slice_get}
use Rattle.std.proofs.lemmas.Result.{on_ok_weaker}
use Rattle.rail_model.specs.declared.items.Section.{Section}
use Rattle.rail_model.specs.declared.stair.Stair.{Stair}
use Rattle.rail_model.specs.declared.limits.TheConstants.{PATH_HOPS}
use Rattle.rail_model.specs.Tables.{no_section}
use Rattle.section_cut.specs.Late.{AreStairsFrom}
use Rattle.section_cut.specs.Members.{AreMembersTo}
use Rattle.section_cut.specs.Positions.{IsPositions}
use Rattle.section_cut.specs.Spans.{AreSpans}
use Rattle.section_cut.proofs.Sections.{section_within}
use Rattle.section_cut.proofs.cuts.add_to_section.Goals as goal

pub add_members-requires-clause-positions : goal.add_members-requires-clause-positions
add_members-requires-clause-positions c =
    let tables = c.args.tables.now in
    let is = get_or_from_slice_get tables.sections c.args.section c.section-section.result.now no_section c.section-section.ensures in
    rw c.deref-2.ensures.value (subst (λ s. IsPositions tables s c.args.rows.now.positions.items) is c.requires.rows.positions)

pub add_members-requires-clause-spans : goal.add_members-requires-clause-spans
add_members-requires-clause-spans c =
    let all = map (λ (s : Stair). s.uses) c.args.stairs.now in
    rw (c.deref-2.ensures.value, c.deref-3.ensures.value)
    (subst (λ ps. AreSpans ps (length c.section-section.result.now.blocks) all c.in_ok-spans.spans.items) c.deref.ensures.value
    (subst (λ k. AreSpans c.deref.result.now k all c.in_ok-spans.spans.items) c.len.ensures.count c.in_ok-spans.ensures))

pub add_members-requires-clause-stairs : goal.add_members-requires-clause-stairs
add_members-requires-clause-stairs c =
    subst (λ s. AreStairsFrom c.args.tables.now s c.args.from c.args.stairs.now)
    (get_or_from_slice_get c.args.tables.now.sections c.args.section c.section-section.result.now no_section c.section-section.ensures)
    c.requires.stairs

pub invariant_of-table : goal.invariant_of-table
invariant_of-table c = record {
  most = subst (λ (s : Section). length s.blocks ≤ PATH_HOPS)
      (get_or_from_slice_get c.args.tables.now.sections c.args.section c.section-section.result.now no_section c.section-section.ensures)
      (section_within c.args.tables.now c.learn_sound.ensures c.args.section c.requires.there).most;
}

pub add_members-requires-clause-rows : goal.add_members-requires-clause-rows
add_members-requires-clause-rows c =
    subst (λ s. AreMembersTo c.args.tables.now s c.args.stamp c.args.from c.args.rows.now.members)
    (get_or_from_slice_get c.args.tables.now.sections c.args.section c.section-section.result.now no_section c.section-section.ensures)
    c.requires.rows.members

pub returns : goal.returns
returns c =
    let count = c.args.from + length c.args.stairs.now in
    let is_lent = get_or_from_slice_get c.args.tables.now.sections c.args.section c.section-section.result.now no_section c.section-section.ensures in
    on_ok_weaker c.add_members.result
    (λ are. record {
      positions = c.requires.rows.positions;
      members = subst (λ s. AreMembersTo c.args.tables.now s c.args.stamp count c.add_members.new.all) (sym is_lent) are;
    })
    c.add_members.ensures
