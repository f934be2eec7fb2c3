use Rattle.std.proofs.Common.{◌≡◌, rules, length, subst, ap, ◌∙◌, arith}
use Rattle.std.specs.Prelude.{pos, IfOk, fold, replicate, slice_index_or}
use Rattle.headway_table.specs.declared.row.TheConstants.{NEVER}
use Rattle.std.proofs.lemmas.List.{get_or-replicate}
use Rattle.plan_model.specs.declared.cut.CutRow.{CutRow}
use Rattle.plan_model.specs.Members.{place_count, member, member_count}
use Rattle.headway_table.specs.Numbers.{raised_from}
use Rattle.plan_model.proofs.Sound.{all_usable}
use Rattle.headway_table.proofs.Filled.{all_bounded, written}
use Rattle.headway_table.proofs.Told.{row_told}
use Rattle.headway_table.proofs.row.headways_from.Goals as goal

pub raise_by_all-requires-clause-starts : goal.raise_by_all-requires-clause-starts
raise_by_all-requires-clause-starts c =
    let cut = c.args.cut.now in
    all_bounded cut.rows (place_count cut) c.args.starts.now c.requires.starts (all_usable cut c.row.ensures.sound)

pub returns : goal.returns
returns c =
    let cut = c.args.cut.now in
    let i = c.args.i in
    let starts = c.args.starts.now in
    let made = c.in_ok-greatest.greatest in
    let new = c.raise_by_all.new.greatest in
    let made_of : made.items ≡ replicate c.member_count.result NEVER = search rules in
    let long : length c.deref_mut.result.now ≡ member_count cut = search rules in
    let kept = c.deref.ensures.value ∙ written new made.items made.len (c.raise_by_all.ensures.count ∙ c.deref_mut.ensures.len) in
    let whole = row_told cut c.row.ensures.sound starts c.requires.starts i c.requires.there c.deref.result.now (length c.deref.result.now)
    (ap length kept ∙ c.raise_by_all.ensures.count ∙ long)
    (λ j l.
    ap (λ ns. slice_index_or ns j (pos 0)) kept
    ∙ c.raise_by_all.ensures.each j (omega (arith, l, long))
    ∙ ap (λ (r : CutRow). fold (raised_from starts r.entry j) (slice_index_or c.deref_mut.result.now j (pos 0)) r.uses) c.row.ensures.row
    ∙ ap (λ z. fold (raised_from starts (member cut i).entry j) z (member cut i).uses)
    (ap (λ ns. slice_index_or ns j (pos 0)) (c.deref_mut.ensures.value ∙ made_of)
    ∙ get_or-replicate c.member_count.result j NEVER (pos 0) (omega (arith, l, c.member_count.ensures.count)))) in
    subst (λ xs. IfOk c.headways_of.result (λ row. row ≡ xs)) whole c.headways_of.ensures
