use Rattle.std.proofs.Common.{get_or, sym, ◌∙◌}
use Rattle.std.proofs.lemmas.Bool.{not-true, not-false, or_from}
use Rattle.std.proofs.lemmas.List.{get_or_default}
use Rattle.line_tables.proofs.Repeats.{repeats_more, repeats_found, seen_more}
use Rattle.line_tables.proofs.key_set.repeats.Goals as goal

pub returns-then-not-branch : goal.returns-then-not-branch
returns-then-not-branch c =
    let keys = c.args.keys.now in
    let i = c.loop-key.key-index in
    let key = get_or keys i 0 in
    sym (repeats_found keys i key c.loop-key-test.true (get_or_default keys i 0 key c.loop-key-test.true) (sym (c.loop-key.invariant.seen key) ∙ not-false _ (sym c.in_ok-insert.ensures.fresh ∙ c.if-not-branch.true)))

pub loop-key-preserved : goal.loop-key-preserved
loop-key-preserved c =
    let keys = c.args.keys.now in
    let i = c.loop-key.key-index in
    let key = get_or keys i 0 in
    record {
      no_repeat = repeats_more keys i key c.loop-key-test.true (get_or_default keys i 0 key c.loop-key-test.true)
          ∙ or_from _ _ c.loop-key.invariant.no_repeat (sym (c.loop-key.invariant.seen key) ∙ not-true _ (sym c.in_ok-insert.ensures.fresh ∙ c.if-not-branch.false));
      seen = λ k. c.in_ok-insert.ensures.ok k ∙ seen_more keys i k c.loop-key-test.true _ (c.loop-key.invariant.seen k);
    }
