use Rattle.std.proofs.Common.{◌≡◌, ◌+◌, ℕ, ◌<◌, length, take, get_or, set, rules, sym, subst, ◌∙◌, arith, length-set, to_z, of_z, w64}
use Rattle.std.specs.Prelude.{None, Some}
use Rattle.plan_model.specs.Members.{no_use}
use Rattle.std.proofs.lemmas.Int.{ints}
use Rattle.train_order.specs.Starts.{start_of}
use Rattle.train_order.specs.OutOfTurn.{AreFrom}
use Rattle.train_order.proofs.Beside.{start_more, from_more}
use Rattle.train_order.proofs.pairs.put_starts.Goals as goal

pub loop-one-preserved : goal.loop-one-preserved
loop-one-preserved c =
    let k = c.loop-one.one-index in
    let starts = c.loop-one.starts in
    let uses = c.args.uses.now in
    let u = get_or uses k no_use in
    let inv = c.loop-one.invariant in
    let cast : to_z w64 (of_z w64 u.start) ≡ u.start = search rules in
    let least : to_z w64 (of_z w64 c.min-first.result) ≡ c.min-first.result = search rules in
    let there : u.block < length starts = omega (arith, c.requires.there k no_use c.loop-one-test.true, inv.count) in
    record {
      count = length-set starts u.block _ ∙ inv.count;
      each =
          subst (λ s. (place : ℕ) → get_or (set starts u.block (Some s)) place None ≡ start_of (take (k + 1) uses) place) (sym cast)
          (start_more starts uses k c.requires.differ c.loop-one-test.true there inv.each);
      from =
          subst (λ m. AreFrom m (set starts u.block (Some (to_z w64 (of_z w64 u.start))))) (sym least)
          (subst (λ s. AreFrom c.min-first.result (set starts u.block (Some s))) (sym cast)
          (from_more starts u.block u.start _ c.min-first.result there (grind (arith, ints)) (grind (arith, ints)) inv.from));
    }
