use Rattle.std.proofs.Common.{◌≡◌, ◌+◌, ◌∷◌, [], length, ap, sym, subst, ◌∙◌, inl, inr, arith}
use Rattle.std.proofs.lemmas.Bool.{cases_lt}
use Rattle.std.proofs.lemmas.List.{length-append, get_or_append_left, get_or_push}
use Rattle.rail_model.specs.Tables.{section_at}
use Rattle.section_cut.specs.Members.{AreSectionRowsTo}
use Rattle.section_cut.proofs.line_cuts.no_rows.Goals as goal

pub loop-section-preserved : goal.loop-section-preserved
loop-section-preserved c =
    let tables = c.args.tables.now in
    let each = c.loop-section.each.items in
    let n = c.loop-section.section in
    let one = c.in_ok-no_section_rows.field-0 in
    let count = c.loop-section.invariant.count in
    record {
      count = ap length c.in_ok-push.ensures.items ∙ length-append each (one ∷ []) ∙ ap (λ m. m + 1) count;
      none = rw c.in_ok-push.ensures.items (λ k d below. elim (cases_lt k n) [
        | inl early ↦
            subst (AreSectionRowsTo tables (section_at tables k) c.args.stamp 0) (sym (get_or_append_left each (one ∷ []) d k (omega (arith, early, count))))
            (c.loop-section.invariant.none k d early)
        | inr late ↦
            let last : length each ≡ k = omega (arith, below, late, count) in
            let same : k ≡ n = omega (arith, below, late) in
            subst (AreSectionRowsTo tables (section_at tables k) c.args.stamp 0) (sym (get_or_push each one d k last))
            (subst (λ m. AreSectionRowsTo tables (section_at tables m) c.args.stamp 0 one) (sym same) (c.in_ok-no_section_rows.ensures c.args.stamp))
      ]);
    }

pub returns-clause-rows : goal.returns-clause-rows
returns-clause-rows c =
    let tables = c.args.tables.now in
    let whole : c.loop-section.section ≡ length tables.sections = omega (arith, c.loop-section-test.false, c.loop-section.auto.section-end, c.sections-section-end.ensures.count) in
    record {
      count = c.loop-section.invariant.count ∙ whole;
      each = λ k d l. c.loop-section.invariant.none k d (omega (arith, l, whole));
    }
