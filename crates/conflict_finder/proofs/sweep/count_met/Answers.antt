use Rattle.std.proofs.Common.{sym, rules, ◌∙◌, arith}
use Rattle.std.proofs.lemmas.Fn.{always_returns_same}
use Rattle.std.proofs.lemmas.List.Sums.{prefix_len_is}
use Rattle.conflict_finder.specs.Sweep.{meets, no_run_use}
use Rattle.conflict_finder.proofs.sweep.count_met.Goals as goal

pub returns-then-not-meets : goal.returns-then-not-meets
returns-then-not-meets c =
    sym (prefix_len_is (meets c.args.one.now) c.args.later.now c.loop-i.i no_run_use (omega arith) c.loop-i.invariant (λ lt. sym c.meets.ensures ∙ c.if-not-meets.true))

-- the place that the search finds is the first at which the test fails
pub returns : goal.returns
returns c =
    let later = c.args.later.now in
    let p = meets c.args.one.now in
    let found = c.partition_point.ensures.partitioned p (always_returns_same _ _ _ (λ a r q k. search rules)) c.requires in
    sym (prefix_len_is p later c.partition_point.result no_run_use c.partition_point.ensures.bound
    (λ k lt. found.0 k no_run_use (omega arith) lt)
    (λ lt. found.1 c.partition_point.result no_run_use (omega arith) lt))
