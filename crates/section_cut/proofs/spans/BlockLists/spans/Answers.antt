use Rattle.std.proofs.Common.{map, sym, ap, ◌∙◌}
use Rattle.std.specs.Prelude.{slice_get}
use Rattle.std.specs.Option.{option_and_then}
use Rattle.std.proofs.lemmas.List.{take_all}
use Rattle.section_cut.proofs.Parts.{spans_are}
use Rattle.section_cut.proofs.spans.BlockLists.spans.Goals as goal

pub returns : goal.returns
returns c all over =
    let by_list = c.in_ok-by_list.by_list.items in
    spans_are c.args.positions.now c.args.blocks c.deref.result.now by_list c.in_ok-by_list.ensures all c.args.self.now (sym c.deref.ensures.value) over
    c.loop-number.spans.items
    (c.loop-number.invariant
    ∙ ap (map (option_and_then (slice_get by_list)))
    (take_all c.loop-number.number-index c.deref-number-items.result.now c.loop-number-test.false ∙ c.deref-number-items.ensures.value))
