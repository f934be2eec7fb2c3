use Rattle.std.proofs.Common.{◌≡◌, ◌<◌, List, ◌++◌, ◌∷◌, [], length, sym, ap, ◌∙◌, arith}
use Rattle.std.specs.List.{range_with_len}
use Rattle.std.specs.Prelude.{map, filter, take, option_map}
use Rattle.std.specs.Option.{option_copied, option_to_list}
use Rattle.std.proofs.lemmas.List.{take_all}
use Rattle.rail_model.specs.declared.items.Run.{Run}
use Rattle.rail_model.specs.Tables.{run_at}
use Rattle.plan_model.specs.Cut.{section_uses, is_member}
use Rattle.section_cut.specs.Members.{member_row, member_of, row_on_blocks, member_at}
use Rattle.section_cut.proofs.MemberRows.{rows_more, members_more}
use Rattle.section_cut.proofs.ReachedRuns.{before_next, uses_looked_at, own_blocks_first, member_is}
use Rattle.section_cut.proofs.reached_runs.members_after.Goals as goal

pub row_of-own-requires-clause-before : goal.row_of-own-requires-clause-before
row_of-own-requires-clause-before c = c.loop-n.invariant.before (omega (arith, c.loop-n-test.true, c.runs-n-end.ensures.count))

pub member_anew-requires-clause-uses : goal.member_anew-requires-clause-uses
member_anew-requires-clause-uses c =
    uses_looked_at c.requires.beside c.loop-n.n (omega (arith, c.loop-n-test.true, c.runs-n-end.ensures.count)) c.index.result.now c.index.ensures
    c.args.table.spans.now c.requires.spans c.looked_at-uses.result.now (rw (← c.deref.ensures.value) c.looked_at-uses.ensures)

pub member_anew-requires-clause-own : goal.member_anew-requires-clause-own
member_anew-requires-clause-own c =
    own_blocks_first c.requires.beside c.loop-n.n (omega (arith, c.loop-n-test.true, c.runs-n-end.ensures.count)) c.index.result.now c.index.ensures
    (option_copied c.row_of-own.result) c.row_of-own.ensures.own

pub loop-n-preserved : goal.loop-n-preserved
loop-n-preserved c =
    let later = c.args.both.after.now in
    let section = c.args.table.section.now in
    let stamp = c.args.stamp in
    let n = c.loop-n.n in
    let run = run_at later n in
    let here : n < length later.runs = omega (arith, c.loop-n-test.true, c.runs-n-end.ensures.count) in
    let row : c.in_ok-row.row ≡ member_row section run.name stamp (section_uses later section run) =
    c.in_ok-row.ensures
    ∙ member_is c.requires.beside n here c.index.result.now c.index.ensures (option_copied c.row_of-own.result) c.row_of-own.ensures.own stamp in
    record {
      rows = c.in_ok-add_run.ensures.rows ∙ ap (λ rs. rs ++ option_to_list c.in_ok-row.row) c.loop-n.invariant.rows
          ∙ ap (λ r. map (row_on_blocks later section stamp) (filter (is_member later section) (take n later.runs)) ++ option_to_list r) row ∙ sym (rows_more later section stamp n here);
      of_run = c.in_ok-add_run.ensures.of_run
          ∙ ap (λ ms. ms ++ option_map (member_of (length c.loop-n.all.rows)) c.in_ok-row.row ∷ []) c.loop-n.invariant.of_run
          ∙ ap (λ r. map (member_at later section) (range_with_len 0 n) ++ option_map (member_of (length c.loop-n.all.rows)) r ∷ []) row
          ∙ sym (members_more later section stamp n c.loop-n.all.rows c.loop-n.invariant.rows);
      before = λ next. before_next c.requires.beside n c.row_of-own.new.at c.row_of-own.ensures.at next;
    }

pub returns-clause-rows : goal.returns-clause-rows
returns-clause-rows c =
    let later = c.args.both.after.now in
    let section = c.args.table.section.now in
    c.loop-n.invariant.rows
    ∙ ap (λ (rs : List Run). map (row_on_blocks later section c.args.stamp) (filter (is_member later section) rs))
    (take_all c.loop-n.n later.runs (omega (arith, c.loop-n-test.false, c.runs-n-end.ensures.count)))
