use Rattle.std.proofs.Common.{◌<◌, length, sym, ◌∙◌, arith, map}
use Rattle.std.specs.Prelude.{pos}
use Rattle.std.proofs.lemmas.List.{ext_get_or, length-map, get_or-map}
use Rattle.plan_model.specs.declared.answer.Placed.{Placed}
use Rattle.critical_chain.specs.Chain.{no_train}
use Rattle.critical_chain.proofs.checking.lay_out.Goals as goal

pub returns : goal.returns
returns c =
    let placed = c.args.placed.now in
    ext_get_or (pos 0) c.loop-i.entries (map (λ (p : Placed). p.entry) placed)
    (c.loop-i.invariant.count ∙ sym (length-map placed (λ (p : Placed). p.entry)))
    (λ k l.
    let lk : k < length placed = omega (arith, l, c.loop-i.invariant.count) in
    c.loop-i.invariant.each k (omega (arith, lk, c.loop-i-test.false, c.len-i-end.ensures)) ∙ sym (get_or-map (λ (p : Placed). p.entry) placed k no_train (pos 0) lk))
