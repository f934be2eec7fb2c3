use Rattle.std.proofs.Common.{◌≡◌, ◌≢◌, ◌<◌, length, get_or, set, sym, ◌∙◌, subst, inl, inr, arith}
use Rattle.std.proofs.lemmas.Bool.{cases_lt}
use Rattle.std.proofs.lemmas.List.{length-set, get_or-set_other}
use Rattle.std.proofs.lemmas.Grind.{get_or-set_at}
use Rattle.rail_model.specs.Tables.{section_at}
use Rattle.section_cut.specs.Members.{AreSectionRowsTo}
use Rattle.section_cut.proofs.LineCuts.{from_part_of}
use Rattle.section_cut.proofs.line_cuts.add_part.Goals as goal

pub add_to_section-requires-clause-stairs : goal.add_to_section-requires-clause-stairs
add_to_section-requires-clause-stairs c =
    (from_part_of c.args.tables.now (section_at c.args.tables.now c.loop-section.section) c.args.paths.now c.requires.paths
    c.args.from c.args.to c.in_ok-stairs.stairs (c.in_ok-stairs.ensures ∙ c.in_ok-stairways_between.ensures) c.requires.part c.requires.there).1

pub loop-section-preserved : goal.loop-section-preserved
loop-section-preserved c =
    let tables = c.args.tables.now in
    let items = c.loop-section.all.each.items in
    let n = c.loop-section.section in
    let stamp = c.loop-section.all.stamp in
    let new = c.add_to_section.new.rows in
    let here : n < length items = omega (arith, c.loop-section-test.true, c.sections-section-end.ensures.count, c.loop-section.invariant.count) in
    let done : AreSectionRowsTo tables (section_at tables n) stamp c.args.to new =
    subst (λ m. AreSectionRowsTo tables (section_at tables n) stamp m new)
    (from_part_of tables (section_at tables n) c.args.paths.now c.requires.paths c.args.from c.args.to c.in_ok-stairs.stairs
    (c.in_ok-stairs.ensures ∙ c.in_ok-stairways_between.ensures) c.requires.part c.requires.there).0
    c.in_ok-add_to_section.ensures in
    record {
      stamp = c.loop-section.invariant.stamp;
      count = length-set items n new ∙ c.loop-section.invariant.count;
      done = λ k d below. elim (cases_lt k n) [
        | inl early ↦
            let other : k ≢ n = λ e. omega (arith, e, early) in
            subst (AreSectionRowsTo tables (section_at tables k) stamp c.args.to) (sym (get_or-set_other items n k new d other)) (c.loop-section.invariant.done k d early)
        | inr late ↦
            let same : k ≡ n = omega (arith, below, late) in
            subst (λ m. AreSectionRowsTo tables (section_at tables m) stamp c.args.to (get_or (set items n new) k d)) (sym same)
            (subst (AreSectionRowsTo tables (section_at tables n) stamp c.args.to) (sym (get_or-set_at items n k new d same here)) done)
      ];
      left = λ k d late within.
          let other : k ≢ n = λ e. omega (arith, e, late) in
          subst (AreSectionRowsTo tables (section_at tables k) stamp c.args.from) (sym (get_or-set_other items n k new d other))
          (c.loop-section.invariant.left k d (omega (arith, late)) within);
    }
