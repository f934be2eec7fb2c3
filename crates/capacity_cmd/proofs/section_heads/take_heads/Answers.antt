use Rattle.std.proofs.Common.{◌≡◌, ◌+◌, ◌<◌, List, [], length, sym, ap, subst, ◌∙◌, arith}
use Rattle.headway_table.proofs.Filled.{written}
use Rattle.capacity_report.specs.Answers.{Total}
use Rattle.capacity_cmd.specs.declared.section_heads.Head.{Head}
use Rattle.capacity_cmd.specs.Heads.{AreHeads}
use Rattle.capacity_cmd.proofs.Reports.{sections_counted}
use Rattle.capacity_cmd.proofs.SideBySide.{text_added}
use Rattle.capacity_cmd.proofs.section_heads.take_heads.Goals as goal

pub join-requires : goal.join-requires
join-requires c =
    let added = c.loop-number.invariant.0 in
    omega (
      arith,
      sections_counted c.args.tables.now c.loop-number.number [] added.rows _ (omega arith) added.heads,
      ap (λ (t : Total). t.sections) c.take_head-sheet.ensures.head.counted,
    )

pub loop-number-preserved : goal.loop-number-preserved
loop-number-preserved c =
    let tables = c.args.tables.now in
    let n = c.loop-number.number in
    let there : n < length tables.sections = rw (← c.sections-number-end.ensures.count) c.loop-number-test.true in
    let left : List Head = c.take_head-sheet.new.heads in
    let heads = c.loop-number.heads in
    let count : length left ≡ length heads.items = c.take_head-sheet.ensures.left.count ∙ sym c.loop-number.invariant.1.count in
    let kept = written left heads.items heads.len (count ∙ ap length (sym c.deref_mut.ensures.value) ∙ c.deref_mut.ensures.len) in (
      text_added tables n _ _ _ c.take_head-sheet.result _ _ there c.loop-number.invariant.0 c.take_head-sheet.ensures.head
          c.into_text.ensures c.in_ok-push.ensures.ok c.join.ensures,
      subst (AreHeads tables (n + 1)) (sym kept) c.take_head-sheet.ensures.left,
    )
