use Rattle.std.proofs.Common.{◌≡◌, ◌+◌, length, take, get_or, set, rules, ap, subst, ◌∙◌, arith, to_z, of_z, w64}
use Rattle.std.specs.Prelude.{Some}
use Rattle.std.proofs.lemmas.List.{take_all}
use Rattle.rail_model.specs.declared.stair.Use.{Use}
use Rattle.plan_model.specs.declared.cut.CutRow.{CutRow}
use Rattle.plan_model.specs.Members.{member, no_use}
use Rattle.cycle_time.specs.declared.stay.Stay.{Stay}
use Rattle.cycle_time.specs.Demands.{IsSpan}
use Rattle.cycle_time.specs.Laying.{stay_by, with_stay, ends_at, IsLedTo, AreLaidOn, with_uses}
use Rattle.cycle_time.proofs.Along.{next_more, use_laid, train_laid}
use Rattle.cycle_time.proofs.laying.lay_train.Goals as goal

pub loop-one-preserved : goal.loop-one-preserved
loop-one-preserved c =
    let cut = c.args.cut.now in
    let order = c.args.order.now in
    let k = c.args.k in
    let j = get_or order k 0 in
    let n = c.loop-one.one-index in
    let its : c.slice-one-items.result.now ≡ (member cut j).uses =
    c.slice-one-items.ensures ∙ ap (λ (r : CutRow). r.uses) c.row-row.ensures.row in
    let before = c.loop-one.demands.items in
    let after = c.lay_stay.new.demands.items in
    let ends = c.loop-one.ends in
    let entry = (member cut j).entry in
    let items = c.slice-one-items.result.now in
    let cast : to_z w64 (of_z w64 c.row-row.result.now.entry) ≡ c.row-row.result.now.entry = search rules in
    let stay : c.stay_of-stay.result ≡ stay_by j entry (get_or items n no_use) =
    c.stay_of-stay.ensures.is
    ∙ ap (λ t. stay_by j t (get_or items n no_use)) (cast ∙ ap (λ (r : CutRow). r.entry) c.row-row.ensures.row) in
    let here : get_or items n no_use ≡ get_or (member cut j).uses n no_use = ap (λ us. get_or us n no_use) its in
    let is : c.stay_of-stay.result ≡ stay_by j entry (get_or (member cut j).uses n no_use) = stay ∙ ap (stay_by j entry) here in
    use_laid cut c.requires.sound (take k order) (take (k + 1) order) j (next_more order k c.requires.there) c.requires.next
    n (omega (arith, c.loop-one-test.true, ap length its)) before after ends c.lay_stay.new.ends c.loop-one.invariant
    (subst (λ (u : Use). IsLedTo (ends_at ends u.block) (stay_by j entry u) u.block before after) here
    (subst (λ s. IsLedTo (ends_at ends (get_or items n no_use).block) s (get_or items n no_use).block before after) stay
    c.in_ok-lay_stay.ensures.demands))
    (subst (λ (u : Use). c.lay_stay.new.ends ≡ set ends u.block (Some (with_stay (ends_at ends u.block) (stay_by j entry u)))) here
    (subst (λ s. c.lay_stay.new.ends
    ≡ set ends (get_or items n no_use).block (Some (with_stay (ends_at ends (get_or items n no_use).block) s))) stay
    c.in_ok-lay_stay.ensures.ends))
    (subst (λ (s : Stay). IsSpan s.from) is c.stay_of-stay.ensures.from)
    (subst (λ (s : Stay). IsSpan s.until) is c.stay_of-stay.ensures.until)

pub returns : goal.returns
returns c =
    let cut = c.args.cut.now in
    let order = c.args.order.now in
    let k = c.args.k in
    let j = get_or order k 0 in
    let its : c.slice-one-items.result.now ≡ (member cut j).uses =
    c.slice-one-items.ensures ∙ ap (λ (r : CutRow). r.uses) c.row-row.ensures.row in
    let all = take_all c.loop-one.one-index (member cut j).uses (omega (arith, c.loop-one-test.false, ap length its)) in
    train_laid cut c.requires.sound (take k order) (take (k + 1) order) j (next_more order k c.requires.there) c.requires.next
    c.loop-one.demands.items c.loop-one.ends
    (subst (λ us. AreLaidOn cut (with_uses (take k order) (take (k + 1) order) us) c.loop-one.demands.items c.loop-one.ends) all c.loop-one.invariant)
