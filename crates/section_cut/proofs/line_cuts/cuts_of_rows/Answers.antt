use Rattle.std.proofs.Common.{ℕ, ◌≡◌, ◌+◌, ◌<◌, ◌≤◌, List, ◌++◌, ◌∷◌, [], length, map, take, get_or, ap, sym, subst, ◌∙◌, arith}
use Rattle.std.specs.Prelude.{drop}
use Rattle.std.proofs.lemmas.List.{length-append, length-drop, take_all, map_more}
use Rattle.std.proofs.lemmas.List.Elements.{All-push}
use Rattle.std.specs.Vec.Iter.{into_iter_items}
use Rattle.rail_model.specs.declared.items.Section.{Section}
use Rattle.rail_model.specs.declared.tables.Tables.{Tables}
use Rattle.rail_model.specs.Tables.{no_section, section_at}
use Rattle.plan_model.specs.Cut.{stamped, IsSoundCut, section_cut}
use Rattle.section_cut.specs.declared.cuts.SectionRows.{SectionRows}
use Rattle.section_cut.specs.Members.{AreMembersTo, AreSectionRowsTo}
use Rattle.section_cut.proofs.LineCuts.{first_left}
use Rattle.section_cut.proofs.line_cuts.cuts_of_rows.Goals as goal
use Rattle.section_cut.proofs.line_cuts.cuts_of_rows.Goals.{After-len}

-- the rows that are taken are those of the section of this number
module _ (c : After-len) where
  abbrev tables : Tables
  tables = c.args.tables.now

  abbrev n : ℕ
  n = length c.loop-rows.made

  abbrev items : List SectionRows
  items = c.args.all.each.items

  first : (n < length items) × ((d : SectionRows) → get_or items n d ≡ c.in-Some.rows) × (into_iter_items c.next.new.self ≡ drop (n + 1) items)
  first = first_left items n c.in-Some.rows (into_iter_items c.next.new.self) (sym c.in-Some.ensures.steps.0 ∙ c.loop-rows.invariant.left)

  below : n < length tables.sections
  below = omega (arith, first.0, c.requires.count)

  are : AreMembersTo tables (section_at tables c.len.result) c.args.all.stamp (length tables.runs) c.in-Some.rows.members
  are = subst (λ m. AreMembersTo tables (section_at tables m) c.args.all.stamp (length tables.runs) c.in-Some.rows.members) (sym c.len.ensures.count)
      (subst (AreSectionRowsTo tables (section_at tables n) c.args.all.stamp (length tables.runs)) (first.1 c.in-Some.rows) (c.requires.each n c.in-Some.rows below)).members

pub overflow_cast-len : goal.overflow_cast-len
overflow_cast-len c = omega (arith, c.len.ensures.count, below c, c.learn_sound.ensures.sections.most)

pub cut_of_section-requires-clause-there : goal.cut_of_section-requires-clause-there
cut_of_section-requires-clause-there c = omega (arith, c.len.ensures.count, below c)

pub cut_of_section-requires-clause-rows : goal.cut_of_section-requires-clause-rows
cut_of_section-requires-clause-rows c = (c.args.all.stamp, are c)

pub loop-rows-preserved : goal.loop-rows-preserved
loop-rows-preserved c =
    let tables = c.args.tables.now in
    let n = length c.loop-rows.made in
    let cut = c.in_ok-cut_of_section.field-0 in
    let f = λ (s : Section). stamped c.args.all.stamp (section_cut tables s) in
    let at = (goal.at.loop-rows-preserved c).After-len in
    let longer = ap length c.in_ok-push.ensures.ok ∙ length-append c.loop-rows.made (cut ∷ []) in
    let is : cut ≡ f (section_at tables n) = c.in_ok-cut_of_section.ensures.same c.args.all.stamp (are at) ∙ ap (λ m. f (section_at tables m)) c.len.ensures.count in
    record {
      same = c.in_ok-push.ensures.ok ∙ ap (λ m. m ++ cut ∷ []) c.loop-rows.invariant.same
          ∙ ap (λ s. map f (take n tables.sections) ++ s ∷ []) is
          ∙ sym (map_more f tables.sections n no_section (below at))
          ∙ ap (λ m. map f (take m tables.sections)) (sym longer);
      sound = rw c.in_ok-push.ensures.ok (All-push IsSoundCut c.loop-rows.made cut c.loop-rows.invariant.sound c.in_ok-cut_of_section.ensures.sound);
      left = (first at).2 ∙ ap (λ m. drop m c.args.all.each.items) (sym longer);
      long = omega (arith, c.in-Some.ensures.steps.1, ap length c.in-Some.ensures.steps.0, c.loop-rows.invariant.long);
    }

pub returns : goal.returns
returns c =
    let tables = c.args.tables.now in
    let n = length c.loop-rows.made in
    let whole : length tables.sections ≤ n =
    omega (arith, ap length c.loop-rows.invariant.left, c.loop-rows.invariant.long, c.in-None.ensures.steps.0, length-drop n c.args.all.each.items, c.requires.count) in
    record {
      same = c.loop-rows.invariant.same ∙ ap (map (λ s. stamped c.args.all.stamp (section_cut tables s))) (take_all n tables.sections whole);
      sound = c.loop-rows.invariant.sound;
    }
