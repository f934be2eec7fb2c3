use Rattle.std.proofs.Common.{◌≡◌, ◌+◌, ◌<◌, ◌++◌, ◌∷◌, [], None, length, get_or, sym, ap, ◌∙◌, subst, arith}
use Rattle.std.specs.List.{range_with_len}
use Rattle.std.specs.Prelude.{map, filter, take, option_map, IfSome}
use Rattle.std.specs.Option.{option_to_list}
use Rattle.std.proofs.lemmas.List.{length-map, get_or-map}
use Rattle.rail_model.specs.declared.stair.Stair.{Stair}
use Rattle.rail_model.specs.Tables.{run_at}
use Rattle.plan_model.specs.Cut.{section_uses, is_member}
use Rattle.rail_model.specs.Conflict.{stair_at, no_stair}
use Rattle.section_cut.specs.Positions.{uses_in}
use Rattle.section_cut.specs.Spans.{IsSpan, blocks_of}
use Rattle.section_cut.specs.Members.{member_row, member_of, row_on_blocks, member_at}
use Rattle.section_cut.proofs.LateRuns.{stair_name, stair_there, stair_row}
use Rattle.section_cut.proofs.MemberRows.{rows_more, members_more}
use Rattle.section_cut.proofs.members.add_members.Goals as goal

pub row_at-requires-clause-there : goal.row_at-requires-clause-there
row_at-requires-clause-there c =
    let tables = c.args.tables.now in
    let k = c.loop-n.n in
    let stairs = c.args.stairs.now in
    let below : k < length stairs = omega (arith, c.loop-n-test.true, c.len-n-end.ensures) in
    let here : c.args.from + k < length tables.runs = omega (arith, below, c.requires.stairs.count) in
    let there = stair_there tables c.args.table.section.now c.learn_sound.ensures (c.args.from + k) here (stair_at stairs k) (c.requires.stairs.each k no_stair below) in
    λ j d l. omega (arith, there j d l, c.requires.positions.count)

pub row_at-requires-clause-span : goal.row_at-requires-clause-span
row_at-requires-clause-span c =
    let section = c.args.table.section.now in
    let stairs = c.args.stairs.now in
    let n = c.loop-n.n in
    let here : n < length stairs = omega (arith, c.loop-n-test.true, c.len-n-end.ensures) in
    subst (λ us. IfSome (get_or c.args.table.spans.now n None) (IsSpan c.args.table.positions.now (length section.blocks) (blocks_of us)))
    (get_or-map (λ (s : Stair). s.uses) stairs n no_stair [] here)
    (c.requires.spans n (omega (arith, here, length-map stairs (λ (s : Stair). s.uses))))

pub loop-n-preserved : goal.loop-n-preserved
loop-n-preserved c =
    let tables = c.args.tables.now in
    let section = c.args.table.section.now in
    let stamp = c.args.stamp in
    let k = c.loop-n.n in
    let n = c.args.from + k in
    let run = run_at tables n in
    let below : k < length c.args.stairs.now = omega (arith, c.loop-n-test.true, c.len-n-end.ensures) in
    let here : n < length tables.runs = omega (arith, below, c.requires.stairs.count) in
    let stair = stair_at c.args.stairs.now k in
    let is = c.requires.stairs.each k no_stair below in
    let sound = c.learn_sound.ensures in
    let row : c.in_ok-row.row ≡ member_row section run.name stamp (section_uses tables section run) =
    c.in_ok-row.ensures
    ∙ ap (λ name. member_row section name stamp (uses_in c.args.table.positions.now (length section.blocks) stair.uses)) (stair_name tables section sound n here stair is)
    ∙ stair_row tables section sound n here stamp c.args.table.positions.now c.requires.positions stair is in
    let next : n + 1 ≡ c.args.from + (k + 1) = omega arith in
    record {
      rows = c.in_ok-add_run.ensures.rows ∙ ap (λ rs. rs ++ option_to_list c.in_ok-row.row) c.loop-n.invariant.rows
          ∙ ap (λ r. map (row_on_blocks tables section stamp) (filter (is_member tables section) (take n tables.runs)) ++ option_to_list r) row ∙ sym (rows_more tables section stamp n here)
          ∙ ap (λ m. map (row_on_blocks tables section stamp) (filter (is_member tables section) (take m tables.runs))) next;
      of_run = c.in_ok-add_run.ensures.of_run
          ∙ ap (λ ms. ms ++ option_map (member_of (length c.loop-n.all.rows)) c.in_ok-row.row ∷ []) c.loop-n.invariant.of_run
          ∙ ap (λ r. map (member_at tables section) (range_with_len 0 n) ++ option_map (member_of (length c.loop-n.all.rows)) r ∷ []) row
          ∙ sym (members_more tables section stamp n c.loop-n.all.rows c.loop-n.invariant.rows)
          ∙ ap (λ m. map (member_at tables section) (range_with_len 0 m)) next;
    }
