use Rattle.std.proofs.Common.{◌≡◌, ◌<◌, length, get_or, None, refl, sym, ◌∙◌, subst, inl, inr, arith}
use Rattle.std.specs.Prelude.{find}
use Rattle.std.proofs.lemmas.List.{get_or_default}
use Rattle.rail_model.specs.Name.{is_same}
use Rattle.rail_model.specs.Tables.{run_at}
use Rattle.std.specs.Option.{option_copied}
use Rattle.std.proofs.lemmas.Bool.{cases_lt, both_ways}
use Rattle.section_cut.specs.ReachedRuns.{StaysRow}
use Rattle.section_cut.proofs.ReachedRuns.{before_next, uses_looked_at, own_bare}
use Rattle.section_cut.proofs.reached_runs.rows_stay.Goals as goal

pub row_of-own-requires-clause-before : goal.row_of-own-requires-clause-before
row_of-own-requires-clause-before c = c.loop-n.invariant.before (omega (arith, c.loop-n-test.true, c.runs-n-end.ensures.count))

pub row_stays-requires-clause-uses : goal.row_stays-requires-clause-uses
row_stays-requires-clause-uses c =
    uses_looked_at c.requires.beside c.loop-n.n (omega (arith, c.loop-n-test.true, c.runs-n-end.ensures.count)) c.index-reached-n.result c.index-reached-n.is
    c.args.table.spans.now c.requires.spans c.looked_at-uses.result.now c.looked_at-uses.ensures

pub row_stays-requires-clause-own : goal.row_stays-requires-clause-own
row_stays-requires-clause-own c =
    own_bare c.requires.beside c.loop-n.n (omega (arith, c.loop-n-test.true, c.runs-n-end.ensures.count)) c.index-reached-n.result c.index-reached-n.is
    (option_copied c.row_of-own.result) c.row_of-own.ensures.own

pub loop-n-preserved : goal.loop-n-preserved
loop-n-preserved c =
    let n = c.loop-n.n in
    let later = c.args.both.after.now in
    let s = c.args.table.section.now in
    let positions = c.args.table.positions.now in
    let reached = c.args.reached.now in
    let old = c.args.old.now in
    let below : n < length later.runs = omega (arith, c.loop-n-test.true, c.runs-n-end.ensures.count) in
    let stair : c.index-reached-n.result ≡ get_or reached n None =
    c.index-reached-n.is ∙ get_or_default reached n c.index-reached-n.result None (omega (arith, below, c.requires.beside.reached.count)) in
    let here : StaysRow s positions (get_or reached n None) (find (λ r. is_same r.name (run_at later n).name) old) =
    subst (λ o. StaysRow s positions o (find (λ r. is_same r.name (run_at later n).name) old)) stair
    (subst (StaysRow s positions c.index-reached-n.result) c.row_of-own.ensures.own (c.in_ok-row_stays.ensures.0 c.if-not-branch.false)) in
    record {
      stay = λ k l. elim (cases_lt k n) [
        | inl lt ↦ c.loop-n.invariant.stay k lt
        | inr ge ↦
            let last : n ≡ k = omega (arith, ge, l) in
            subst (λ j. StaysRow s positions (get_or reached j None) (find (λ r. is_same r.name (run_at later j).name) old)) last here
      ];
      before = λ next. before_next c.requires.beside n c.row_of-own.new.at c.row_of-own.ensures.at next;
    }

pub returns-then-not-branch : goal.returns-then-not-branch
returns-then-not-branch c =
    let n = c.loop-n.n in
    let later = c.args.both.after.now in
    let s = c.args.table.section.now in
    let positions = c.args.table.positions.now in
    let reached = c.args.reached.now in
    let old = c.args.old.now in
    let below : n < length later.runs = omega (arith, c.loop-n-test.true, c.runs-n-end.ensures.count) in
    let stair : c.index-reached-n.result ≡ get_or reached n None =
    c.index-reached-n.is ∙ get_or_default reached n c.index-reached-n.result None (omega (arith, below, c.requires.beside.reached.count)) in (
      λ e. absurd (cc),
      λ all.
          let here : StaysRow s positions c.index-reached-n.result (option_copied c.row_of-own.result) =
          subst (StaysRow s positions c.index-reached-n.result) (sym c.row_of-own.ensures.own)
          (subst (λ o. StaysRow s positions o (find (λ r. is_same r.name (run_at later n).name) old)) (sym stair) (all n below)) in
          absurd (both_ways c.in_ok-row_stays.field-0 c.if-not-branch.true (c.in_ok-row_stays.ensures.1 here)),
    )

pub returns : goal.returns
returns c = (
  λ e n l. c.loop-n.invariant.stay n (omega (arith, l, c.loop-n-test.false, c.runs-n-end.ensures.count)),
  λ same. refl,
)
