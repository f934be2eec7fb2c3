use Rattle.std.proofs.Common.{◌≡◌, rules, sym, subst, pos, to_z, of_z, w64}
use Rattle.plan_model.specs.Members.{block_count, member, uses_place}
use Rattle.path_fill.specs.Search.{kept_to, IsGreatest}
use Rattle.path_fill.proofs.SpanStarts.{near, from_first}
use Rattle.path_fill.proofs.blocks.times_kept.Goals as goal

pub kept_to-requires-clause-near : goal.kept_to-requires-clause-near
kept_to-requires-clause-near c =
    near c.args.cut.now c.cut.ensures.sound c.args.entries.now c.requires.count c.requires.bounded c.span_all.new.spans
    c.span_all.ensures

pub returns-clause-first : goal.returns-clause-first
returns-clause-first c =
    let cut = c.args.cut.now in
    let r = c.args.row in
    let entries = c.args.entries.now in
    let first = c.kept_to.result in
    let entry : to_z w64 (of_z w64 c.args.entry) ≡ c.args.entry = search rules in
    let cast : to_z w64 (of_z w64 first) ≡ first = search rules in
    subst (λ x. IsGreatest (uses_place (member cut r)) (kept_to cut r entries c.args.entry) (block_count cut) (pos 0) x)
    (sym cast)
    (subst (λ e. IsGreatest (uses_place (member cut r)) (kept_to cut r entries e) (block_count cut) (pos 0) first) entry
    (from_first cut entries c.span_all.new.spans r (to_z w64 (of_z w64 c.args.entry)) first c.span_all.ensures
    c.requires.there c.kept_to.ensures.greatest))
