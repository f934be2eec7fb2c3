use Rattle.std.proofs.Common.{◌≡◌, get_or, sym, subst, inl, inr, arith}
use Rattle.std.proofs.lemmas.Bool.{cases_lt}
use Rattle.std.proofs.lemmas.Option.{get_or_from_slice_get}
use Rattle.section_cut.specs.EditedConnection.{IsOfSameRuns}
use Rattle.section_cut.proofs.one_connection.keeps_runs.Goals as goal

pub loop-number-preserved : goal.loop-number-preserved
loop-number-preserved c k d l =
    let all = c.args.tables.now.connections in
    let n = c.loop-number.number in
    elim (cases_lt k n) [
      | inl lt ↦ c.loop-number.invariant k d lt
      | inr ge ↦
          let last : n ≡ k = omega (arith, ge, l) in
          let here = get_or_from_slice_get all n c.connection.result.now d c.connection.ensures in
          subst (λ j. IsOfSameRuns c.args.connection.now (get_or all j d)) last
          (subst (IsOfSameRuns c.args.connection.now) (sym here) (c.is_of_same_runs.ensures c.if-not-is_of_same_runs.false))
    ]

pub returns : goal.returns
returns c _ k d l = c.loop-number.invariant k d (omega (arith, l, c.loop-number-test.false, c.connections-number-end.ensures.count))
