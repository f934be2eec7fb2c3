use Rattle.std.proofs.Common.{◌≡◌, ◌+◌, length, subst, arith}
use Rattle.std.proofs.lemmas.Result.{IfOk-weaker}
use Rattle.rail_model.specs.Tables.{section_at}
use Rattle.plan_model.specs.Cut.{stamped, section_cut}
use Rattle.section_cut.specs.Members.{AreMembersTo}
use Rattle.section_cut.proofs.LineCuts.{from_first}
use Rattle.section_cut.proofs.cuts.cut_by.Goals as goal
use Rattle.section_cut.proofs.cuts.cut_by.Goals.{In_ok-add_to_section}

pub add_to_section-requires-clause-stairs : goal.add_to_section-requires-clause-stairs
add_to_section-requires-clause-stairs c =
    from_first c.args.tables.now (section_at c.args.tables.now c.args.section) c.args.stairs.now c.requires.stairs

pub add_to_section-requires-clause-rows : goal.add_to_section-requires-clause-rows
add_to_section-requires-clause-rows c = c.in_ok-rows.ensures c.args.stamp

-- the rows are those of all runs
are : (c : In_ok-add_to_section) → AreMembersTo c.args.tables.now (section_at c.args.tables.now c.args.section) c.args.stamp (length c.args.tables.now.runs) c.add_to_section.new.rows.members
are c =
    let whole : 0 + length c.args.stairs.now ≡ length c.args.tables.now.runs = omega (arith, c.requires.stairs.count) in
    subst (λ n. AreMembersTo c.args.tables.now (section_at c.args.tables.now c.args.section) c.args.stamp n c.add_to_section.new.rows.members) whole c.in_ok-add_to_section.ensures.members

pub cut_of_section-requires-clause-rows : goal.cut_of_section-requires-clause-rows
cut_of_section-requires-clause-rows c = (c.args.stamp, are c)

pub returns-clause-same : goal.returns-clause-same
returns-clause-same c =
    let value = stamped c.args.stamp (section_cut c.args.tables.now (section_at c.args.tables.now c.args.section)) in
    IfOk-weaker c.cut_of_section.result _ (λ cut. cut ≡ value) (λ cut is. is c.args.stamp (are (goal.at.returns-clause-same c).In_ok-add_to_section)) c.cut_of_section.ensures.same
