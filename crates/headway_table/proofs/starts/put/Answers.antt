use Rattle.std.proofs.Common.{◌≡◌, rules, [], sym, ap, subst, ◌∙◌, to_z, of_z, w32}
use Rattle.std.specs.Prelude.{◌-ℤ◌, slice_index_or, slice_set}
use Rattle.std.proofs.lemmas.List.{get_or_default}
use Rattle.headway_table.specs.Starts.{with_use_start, Changes}
use Rattle.headway_table.proofs.Changed.{row, set_one}
use Rattle.headway_table.proofs.starts.put.Goals as goal

pub returns : goal.returns
returns c =
    let table = c.args.table.now in
    let u = c.args.one.now in
    let j = c.args.j in
    let x = u.start -ℤ c.args.row.now.entry in
    let is : to_z w32 (of_z w32 c.short.result) ≡ x = search rules in
    let old = get_or_default table u.block c.index-table-one.result [] c.requires.place in
    let new : c.put_at.new.starts ≡ slice_set (row table u.block) j x =
    c.put_at.ensures ∙ ap (λ z. slice_set (slice_index_or table u.block c.index-table-one.result) j z) is ∙ ap (λ r. slice_set r j x) old in
    subst (λ r. Changes j (λ p s. with_use_start c.args.row.now.entry p s u) table (slice_set table u.block r)) (sym new)
    (set_one table u.block j x c.requires.place (c.requires.wide u.block c.requires.place))
