use Rattle.std.proofs.Common.{◌++◌, ◌∷◌, [], map, take, sym, ap, ◌∙◌}
use Rattle.std.proofs.lemmas.List.{map_more, take_all}
use Rattle.rail_model.specs.Tables.{block_number}
use Rattle.line_tables.proofs.line_tables.LineTables.numbers_of_blocks.Goals as goal

pub loop-name-preserved : goal.loop-name-preserved
loop-name-preserved c =
    let f = block_number c.args.self.now in
    let names = c.args.names.now in
    let i = c.loop-name.name-index in
    let number = rw c.unwrap.ensures at c.block_number.ensures.number in
    c.in_ok-push.ensures.items ∙ ap (λ ns. ns ++ c.unwrap.result ∷ []) c.loop-name.invariant
    ∙ ap (λ k. map f (take i names) ++ k ∷ []) (number ∙ ap f c.name-item.is)
    ∙ sym (map_more f names i c.name-item.result c.loop-name-test.true)

pub returns : goal.returns
returns c =
    c.loop-name.invariant ∙ ap (map (block_number c.args.self.now)) (take_all c.loop-name.name-index c.args.names.now c.loop-name-test.false)
