use Rattle.std.proofs.Common.{◌≡◌, ℕ, List, map, sym, ap, ◌∙◌}
use Rattle.std.specs.Prelude.{slice_get}
use Rattle.std.proofs.lemmas.Option.{slice_get-map, slice_get-get_or}
use Rattle.rail_model.specs.declared.items.Block.{Block}
use Rattle.line_tables.proofs.Numbers.{at_keys_more}
use Rattle.line_tables.proofs.path.numbers_by_key.Goals as goal

pub loop-number-preserved : goal.loop-number-preserved
loop-number-preserved c =
    let blocks = c.args.blocks.now in
    let number = c.loop-number.number in
    let keys = c.deref-key-items.result.now in
    let same : keys ≡ map (λ (e : ℕ × Block). e.0) blocks = c.deref-key-items.ensures.value ∙ c.in_ok-keys.ensures in
    let here = sym (slice_get-map (λ (e : ℕ × Block). e.0) blocks number) ∙ ap (λ (ks : List ℕ). slice_get ks number) (sym same) ∙ slice_get-get_or keys number 0 c.loop-number-test.true in
    let grown = c.in_ok-grow.ensures in
    at_keys_more (λ (b : Block). b.name) blocks (λ i k. i) 0 c.loop-number.numbers.items c.grow.new.counts.items number _ c.learn_order.ensures here grown.same grown.longer grown.within c.loop-number.invariant
