use Rattle.std.proofs.Common.{◌≡◌, sym, ap, subst, ◌∙◌, arith}
use Rattle.std.specs.List.{All}
use Rattle.plan_model.specs.declared.cut.CutRow.{CutRow}
use Rattle.plan_model.specs.Members.{place_count, member, no_member}
use Rattle.train_order.specs.Visits.{IsLasting, HasMore}
use Rattle.train_order.proofs.Gathered.{member_more}
use Rattle.train_order.proofs.visits.visits_by_place.Goals as goal

-- the uses are those of the member
abbrev its : (c : goal.After-slice) → c.slice.result.now ≡ (member c.args.cut.now c.loop-i.i).uses
its c = c.slice.ensures ∙ ap (λ (r : CutRow). r.uses) c.row.ensures.row

pub add_visits-requires-clause-lasting : goal.add_visits-requires-clause-lasting
add_visits-requires-clause-lasting c =
    subst (All IsLasting) (sym (its c)) (λ k d l.
    let u = (c.row.ensures.sound.each c.loop-i.i no_member (omega (arith, c.loop-i-test.true, c.member_count-i-end.ensures.count))).each k d l in
    record { starts = u.starts; ends = u.ends; some_time = u.some_time })

pub loop-i-preserved : goal.loop-i-preserved
loop-i-preserved c =
    let cut = c.args.cut.now in
    member_more cut c.member_count-i-end.ensures.sound c.loop-i.i (place_count cut) (omega arith) c.loop-i.lists.items
    c.add_visits.new.lists.items c.loop-i.invariant
    (subst (λ us. HasMore c.loop-i.lists.items c.add_visits.new.lists.items c.loop-i.i us)
    (c.slice.ensures ∙ ap (λ (r : CutRow). r.uses) c.row.ensures.row) c.in_ok-add_visits.ensures)
