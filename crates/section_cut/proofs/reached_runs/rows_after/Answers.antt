use Rattle.std.proofs.Common.{◌≡◌, ℕ, ◌<◌, length, map, sym, ap, ◌∙◌, subst, inl, inr, arith}
use Rattle.std.proofs.lemmas.Bool.{cases_lt}
use Rattle.std.proofs.lemmas.List.{take_all}
use Rattle.std.specs.Prelude.{All, filter}
use Rattle.std.specs.Option.{option_copied}
use Rattle.plan_model.specs.Cut.{stamped_row, is_member, row_of}
use Rattle.section_cut.specs.RowsAfter.{IsKept}
use Rattle.section_cut.specs.Stamps.{IsStampedBy}
use Rattle.section_cut.proofs.ReachedRuns.{kept_binding, before_next, uses_looked_at, own_bare, kept_with, rows_with, stamps_with}
use Rattle.section_cut.proofs.reached_runs.rows_after.Goals as goal
use Rattle.section_cut.proofs.reached_runs.rows_after.Goals.{else-index-via-then-index+else-not-enters_as, else-index-via-else-index}

pub row_of-own-requires-clause-before : goal.row_of-own-requires-clause-before
row_of-own-requires-clause-before c = c.loop-n.invariant.before (omega (arith, c.loop-n-test.true, c.runs-n-end.ensures.count))

pub row_anew-requires-clause-uses : goal.row_anew-requires-clause-uses
row_anew-requires-clause-uses c =
    uses_looked_at c.requires.beside c.loop-n.n (omega (arith, c.loop-n-test.true, c.runs-n-end.ensures.count)) c.index.result.now c.index.ensures
    c.args.table.spans.now c.requires.spans c.looked_at-uses.result.now (rw (← c.deref.ensures.value) c.looked_at-uses.ensures)

pub row_anew-requires-clause-own : goal.row_anew-requires-clause-own
row_anew-requires-clause-own c =
    own_bare c.requires.beside c.loop-n.n (omega (arith, c.loop-n-test.true, c.runs-n-end.ensures.count)) c.index.result.now c.index.ensures
    (option_copied c.row_of-own.result) c.row_of-own.ensures.own

pub loop-n-preserved : goal.loop-n-preserved
loop-n-preserved c =
    let earlier = c.args.both.before.now in
    let later = c.args.both.after.now in
    let s = c.args.table.section.now in
    let n = c.loop-n.n in
    let stair = c.index.result.now in
    let its = c.index.ensures in
    let own = option_copied c.row_of-own.result in
    let found = c.row_of-own.ensures.own in
    let row = c.in_ok-row.row in
    let below : n < length later.runs = omega (arith, c.loop-n-test.true, c.runs-n-end.ensures.count) in
    let kept : IsKept earlier later s n =
    elim c.else-index.branch [
      | else-index-via-then-index+else-not-enters_as w ↦
          inr (kept_with c.requires.beside n below stair its own found c.args.number row c.in_ok-row.ensures c.loop-n.rows (w.enters_as.ensures w.if-not-enters_as.false))
      | else-index-via-else-index w ↦
          inl (c.requires.runs.joined.each n c.index-in-loop-n.result.now (omega (arith, below, ap length c.requires.beside.reached.same.runs)) (sym c.index-in-loop-n.ensures ∙ w.if-index.false))
    ] in
    record {
      kept = λ k l. elim (cases_lt k n) [
        | inl lt ↦ c.loop-n.invariant.kept k lt
        | inr ge ↦ let last : n ≡ k = omega (arith, ge, l) in subst (IsKept earlier later s) last kept
      ];
      value = λ binding. ap (map (stamped_row 0)) c.in_ok-push_row.ensures
          ∙ rows_with c.requires.beside n below stair its own found c.args.number row c.in_ok-row.ensures c.loop-n.rows kept binding (c.loop-n.invariant.value binding);
      stamps = subst (All (IsStampedBy c.args.number c.args.old.now)) (sym c.in_ok-push_row.ensures)
          (stamps_with c.requires.beside n below stair its own found c.args.number row c.in_ok-row.ensures c.loop-n.rows c.loop-n.invariant.stamps);
      before = λ next. before_next c.requires.beside n c.row_of-own.new.at c.row_of-own.ensures.at next;
    }

pub returns : goal.returns
returns c =
    let earlier = c.args.both.before.now in
    let later = c.args.both.after.now in
    let s = c.args.table.section.now in
    let count = ap length c.requires.beside.reached.same.runs in
    let kept : (n : ℕ) → n < length earlier.runs → IsKept earlier later s n =
    λ n l. c.loop-n.invariant.kept n (omega (arith, l, count, c.loop-n-test.false, c.runs-n-end.ensures.count)) in
    record {
      kept = kept;
      value = c.loop-n.invariant.value (kept_binding c.requires.beside kept)
          ∙ ap (λ rs. map (row_of later s) (filter (is_member later s) rs))
          (take_all c.loop-n.n earlier.runs (omega (arith, count, c.loop-n-test.false, c.runs-n-end.ensures.count)));
      stamps = c.loop-n.invariant.stamps;
    }
