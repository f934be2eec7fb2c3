use Rattle.std.proofs.Common.{rules, subst}
use Rattle.std.specs.List.Sorted.{IsSearchInRange}
use Rattle.std.specs.Cmp.Lexicographic.{slice_cmp}
use Rattle.std.specs.Ordering.{nat_cmp}
use Rattle.std.proofs.lemmas.Fn.{always_returns_same}
use Rattle.slab.specs.Slab.{get as slot}
use Rattle.line_tables.specs.Table.{name_at}
use Rattle.line_tables.proofs.Kept.{searched_is}
use Rattle.line_tables.proofs.named_table.position_of.Goals as goal

-- the closure compares each item's name with the name that is sought
pub returns : goal.returns
returns g c =
    let label = g.T.Named.label in
    let at = slot c.args.slots.now in
    let n = c.args.name.now in
    let within = subst (IsSearchInRange c.binary_search_by.result) c.args.order.now.ok.0 c.binary_search_by.ensures.bound in
    searched_is label at c.args.order.now.items n c.binary_search_by.result c.requires.stored c.requires.rise within
    (c.binary_search_by.ensures.position (λ k. slice_cmp nat_cmp (name_at label at k) n) (always_returns_same _ _ _ (λ a r q k. search rules)))
