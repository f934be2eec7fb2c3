use Rattle.std.proofs.Common.{◌≡◌, None, map, subst}
use Rattle.std.specs.Prelude.{All}
use Rattle.section_cut.specs.ReachedRuns.{uses_if_there}
use Rattle.section_cut.specs.Spans.{AreOver}
use Rattle.section_cut.proofs.ReachedRuns.{cuts_as_before}
use Rattle.section_cut.proofs.reach.reach_of_runs.Goals as goal

pub returns-then-not-reaches_some : goal.returns-then-not-reaches_some
returns-then-not-reaches_some c =
    cuts_as_before c.args.before.now c.args.after.now c.args.block c.args.stairs.items c.requires.reached
    (subst (All (λ s. s ≡ None)) c.deref.ensures.value (c.reaches_some.ensures c.if-not-reaches_some.true)) c.requires.before c.requires.after

pub returns : goal.returns
returns c = record {
  stairs = c.requires.reached;
  over = subst (λ ss. AreOver (map uses_if_there ss) c.in_ok-over.over) c.deref-2.ensures.value c.in_ok-over.ensures;
  joined = c.in_ok-joined.ensures;
  block = c.requires.block;
}
