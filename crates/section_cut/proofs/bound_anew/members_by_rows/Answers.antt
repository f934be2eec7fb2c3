use Rattle.std.proofs.Common.{◌≡◌, ◌+◌, ◌<◌, List, ◌++◌, ◌∷◌, [], length, sym, ap, ◌∙◌, arith}
use Rattle.std.specs.List.{range_with_len}
use Rattle.std.specs.Prelude.{map, filter, take, option_map}
use Rattle.std.specs.Option.{option_copied, option_to_list}
use Rattle.std.proofs.lemmas.List.{take_all}
use Rattle.rail_model.specs.declared.items.Run.{Run}
use Rattle.rail_model.specs.Name.{is_same}
use Rattle.rail_model.specs.Tables.{no_run, run_at}
use Rattle.plan_model.specs.declared.cut.CutRow.{CutRow}
use Rattle.plan_model.specs.Cut.{section_uses, is_member}
use Rattle.section_cut.specs.Members.{member_row, member_of, row_on_blocks, member_at}
use Rattle.section_cut.specs.RowsAfter.{on_blocks}
use Rattle.section_cut.proofs.MemberRows.{rows_more, members_more}
use Rattle.section_cut.proofs.RowsKept.{first_found}
use Rattle.section_cut.proofs.Rows.{before_later}
use Rattle.section_cut.proofs.bound_anew.members_by_rows.Goals as goal

pub row_of-its-requires-clause-rise : goal.row_of-its-requires-clause-rise
row_of-its-requires-clause-rise c = c.requires.rise

pub row_of-its-requires-clause-before : goal.row_of-its-requires-clause-before
row_of-its-requires-clause-before c = c.loop-n.invariant.before (omega (arith, c.loop-n-test.true, c.runs-n-end.ensures.count))

pub on_blocks-requires : goal.on_blocks-requires
on_blocks-requires c =
    let name = (run_at c.args.tables.now c.loop-n.n).name in
    first_found c.args.section.now c.args.own.now c.requires.first (λ (r : CutRow). is_same r.name name) (option_copied c.row_of-its.result) c.row_of-its.ensures.own

pub loop-n-preserved : goal.loop-n-preserved
loop-n-preserved c =
    let tables = c.args.tables.now in
    let section = c.args.section.now in
    let stamp = c.args.stamp in
    let own = c.args.own.now in
    let n = c.loop-n.n in
    let run = run_at tables n in
    let here : n < length tables.runs = omega (arith, c.loop-n-test.true, c.runs-n-end.ensures.count) in
    let row : c.in_ok-row.row ≡ member_row section run.name stamp (section_uses tables section run) =
    c.in_ok-row.ensures ∙ ap (option_map (on_blocks section stamp)) c.row_of-its.ensures.own ∙ c.requires.each stamp n here in
    record {
      rows = c.in_ok-add_run.ensures.rows ∙ ap (λ rs. rs ++ option_to_list c.in_ok-row.row) c.loop-n.invariant.rows
          ∙ ap (λ r. map (row_on_blocks tables section stamp) (filter (is_member tables section) (take n tables.runs)) ++ option_to_list r) row ∙ sym (rows_more tables section stamp n here);
      of_run = c.in_ok-add_run.ensures.of_run
          ∙ ap (λ ms. ms ++ option_map (member_of (length c.loop-n.all.rows)) c.in_ok-row.row ∷ []) c.loop-n.invariant.of_run
          ∙ ap (λ r. map (member_at tables section) (range_with_len 0 n) ++ option_map (member_of (length c.loop-n.all.rows)) r ∷ []) row
          ∙ sym (members_more tables section stamp n c.loop-n.all.rows c.loop-n.invariant.rows);
      before = λ next.
          before_later own run.name c.row_of-its.new.at c.requires.rise c.row_of-its.ensures.at (run_at tables (n + 1)).name
          (c.runs-n-end.ensures.sound.runs.names n (n + 1) no_run (omega arith) next);
    }

pub returns-clause-rows : goal.returns-clause-rows
returns-clause-rows c =
    let tables = c.args.tables.now in
    let section = c.args.section.now in
    c.loop-n.invariant.rows
    ∙ ap (λ (rs : List Run). map (row_on_blocks tables section c.args.stamp) (filter (is_member tables section) rs))
    (take_all c.loop-n.n tables.runs (omega (arith, c.loop-n-test.false, c.runs-n-end.ensures.count)))
