use Rattle.std.proofs.Common.{◌+◌, ◌<◌, ◌∙◌, length, take, set, sym, ap, arith, length-set}
use Rattle.plan_model.specs.Members.{member}
use Rattle.plan_model.proofs.Uses.{is_used}
use Rattle.train_order.proofs.Gathered.{gathered, without_visit}
use Rattle.train_order.proofs.visits.gather.Goals as goal
use Rattle.train_order.proofs.visits.gather.Goals.{in-Some, in_default}

pub loop-i-preserved : goal.loop-i-preserved
loop-i-preserved c =
    let cut = c.args.cut.now in
    let i = c.loop-i.i in
    let place = c.args.place in
    let inv = c.loop-i.invariant in
    let within : c.loop-i.count < length c.loop-i.room =
    omega (arith, c.loop-i-test.true, c.member_count-i-end.ensures.count, inv.count, inv.room, c.requires) in
    elim c.match-use_at.branch [
      | in-Some w ↦ record {
        room = ap length w.room-is ∙ length-set c.loop-i.room c.loop-i.count _ ∙ inv.room;
        count = omega (arith, w.count-is, inv.count);
        visits = ap (λ k. take k c.match-use_at.room) w.count-is ∙ ap (take (c.loop-i.count + 1)) w.room-is
            ∙ ap (λ v. take (c.loop-i.count + 1) (set c.loop-i.room c.loop-i.count v)) w.visit_of.ensures
            ∙ gathered cut place i c.loop-i.room c.loop-i.count inv.visits within w.in-Some.one (sym w.in-Some.ensures.is);
      }
      | in_default w ↦ record {
        room = ap length w.room-is ∙ inv.room;
        count = omega (arith, w.count-is, inv.count);
        visits = ap (λ k. take k c.match-use_at.room) w.count-is ∙ ap (take c.loop-i.count) w.room-is ∙ inv.visits
            ∙ sym (without_visit cut place i (is_used (member cut i) place _ (sym w.in_default.ensures.is)));
      }
    ]
