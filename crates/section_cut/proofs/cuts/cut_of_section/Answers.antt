use Rattle.std.proofs.Common.{◌≡◌, ℕ, ◌≤◌, length, refl, sym, ap, subst, ◌∙◌}
use Rattle.std.proofs.lemmas.Result.{IfOk-weaker}
use Rattle.std.proofs.lemmas.Option.{get_or_from_slice_get}
use Rattle.rail_model.specs.declared.items.Section.{Section}
use Rattle.rail_model.specs.declared.tables.Tables.{Tables}
use Rattle.rail_model.specs.declared.limits.TheConstants.{PATH_HOPS}
use Rattle.rail_model.specs.Tables.{no_section, section_at}
use Rattle.plan_model.specs.declared.cut.Cut.{Cut}
use Rattle.plan_model.specs.Cut.{stamped, IsSoundCut, section_cut}
use Rattle.section_cut.specs.Members.{AreMembersTo, rows_on_blocks, members_by_run}
use Rattle.section_cut.proofs.Sections.{section_within}
use Rattle.section_cut.proofs.Joined.{names_on_blocks}
use Rattle.section_cut.proofs.LineCuts.{rows_of_members, all_members, sound_made}
use Rattle.section_cut.proofs.cuts.cut_of_section.Goals as goal
use Rattle.section_cut.proofs.cuts.cut_of_section.Goals.{After-section}

-- the section that is lent, and its members' rows
module _ (c : After-section) where
  abbrev tables : Tables
  tables = c.args.tables.now

  abbrev own : Section
  own = section_at tables c.args.section

  is_lent : own ≡ c.section.result.now
  is_lent = get_or_from_slice_get tables.sections c.args.section c.section.result.now no_section c.section.ensures

  rows_are : (stamp : ℕ) → AreMembersTo tables own stamp (length tables.runs) c.args.members
      → c.args.members.rows ≡ rows_on_blocks tables c.section.result.now stamp
  rows_are stamp are =
      rows_of_members tables own stamp c.args.members (length tables.runs) are refl
      ∙ ap (λ s. rows_on_blocks tables s stamp) is_lent

pub cut_of_members-requires-clause-of_run : goal.cut_of_members-requires-clause-of_run
cut_of_members-requires-clause-of_run c =
    let tables = c.args.tables.now in
    all_members tables (section_at tables c.args.section) c.requires.rows.0 c.args.members (length tables.runs) c.requires.rows.1 refl
    ∙ ap (members_by_run tables) (is_lent c)

pub cut_of_members-requires-clause-names : goal.cut_of_members-requires-clause-names
cut_of_members-requires-clause-names c =
    names_on_blocks c.args.tables.now c.section.result.now c.requires.rows.0 c.args.members.rows (rows_are c c.requires.rows.0 c.requires.rows.1)

pub cut_of_members-requires-clause-blocks : goal.cut_of_members-requires-clause-blocks
cut_of_members-requires-clause-blocks c =
    subst (λ (s : Section). length s.blocks ≤ PATH_HOPS) (is_lent c)
    (section_within c.args.tables.now c.learn_sound.ensures c.args.section c.requires.there).most

pub returns : goal.returns
returns c =
    let tables = c.args.tables.now in
    let cut_with = λ (stamp : ℕ). stamped stamp (section_cut tables (section_at tables c.args.section)) in
    let IsMade = λ (cut : Cut). (stamp : ℕ) → AreMembersTo tables (section_at tables c.args.section) stamp (length tables.runs) c.args.members → cut ≡ cut_with stamp in
    let made = IfOk-weaker c.cut_of_members.result _ IsMade
    (λ cut is stamp are. is stamp (rows_are c.before stamp are) ∙ ap (λ s. stamped stamp (section_cut tables s)) (sym (is_lent c.before)))
    c.cut_of_members.ensures in
    record {
      same = made;
      sound = IfOk-weaker c.cut_of_members.result IsMade IsSoundCut
          (λ cut is. sound_made tables c.learn_sound.ensures c.args.section c.requires.rows.0 cut c.requires.there (is c.requires.rows.0 c.requires.rows.1))
          made;
    }
