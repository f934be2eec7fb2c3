use Rattle.std.proofs.Common.{◌≡◌, IsTrue, get_or, sym, ap, length, subst, rules, arith}
use Rattle.std.proofs.lemmas.List.{length-map}
use Rattle.plan_model.specs.Cut.{stamped_row}
use Rattle.section_cut.proofs.SameValue.{row_at}
use Rattle.section_cut.proofs.same_value.same_rows.Goals as goal

pub returns-then-not-same_row : goal.returns-then-not-same_row
returns-then-not-same_row c =
    let a = c.args.a.now in
    let b = c.args.b.now in
    let one = c.index-a-i.result in
    let other = c.index-b-i.result in (
      search rules,
      λ same. subst IsTrue c.if-not-same_row.true
          (c.same_row.ensures.1
          (subst (λ r. stamped_row 0 r ≡ stamped_row 0 other) (sym c.index-a-i.is)
          (subst (λ r. stamped_row 0 (get_or a c.loop-i.i one) ≡ stamped_row 0 r) (sym c.index-b-i.is)
          (row_at a b c.loop-i.i one other c.loop-i-test.true (omega (arith, ap length same, length-map a (stamped_row 0), length-map b (stamped_row 0), c.loop-i-test.true)) same)))),
    )
