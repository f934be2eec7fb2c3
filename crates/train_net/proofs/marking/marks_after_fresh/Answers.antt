use Rattle.std.proofs.Common.{rules, ◌≡◌, ◌++◌, length, take, drop, sym, subst, ◌∙◌, ◌<◌, arith}
use Rattle.std.specs.Prelude.{All}
use Rattle.std.proofs.lemmas.List.{take_at}
use Rattle.plan_model.specs.Members.{member_count}
use Rattle.train_net.specs.Mended.{AreMarked}
use Rattle.train_net.proofs.Ended.{all_back}
use Rattle.train_net.proofs.Marks.{are_marked}
use Rattle.train_net.proofs.marking.marks_after_fresh.Goals as goal

pub mark_before_fresh-requires-clause-there : goal.mark_before_fresh-requires-clause-there
mark_before_fresh-requires-clause-there c =
    subst (All (λ i. i < member_count c.args.cut.now)) (sym (c.deref.ensures.value ∙ c.in_ok-back.ensures))
    (all_back (member_count c.args.cut.now) c.args.order.now c.requires)

pub returns-clause-marked : goal.returns-clause-marked
returns-clause-marked c =
    let new = c.mark_before_fresh.new.marks in
    let rest = drop (length new) c.in_ok-marks.marks.items in
    let long : c.in_ok-marks.marks.len ≡ length new = first_of (search rules, omega (arith, c.mark_before_fresh.ensures.count, c.deref_mut.ensures.len)) in
    let same : take c.in_ok-marks.marks.len (new ++ rest) ≡ new = take_at new rest c.in_ok-marks.marks.len (sym long) in
    subst (AreMarked c.args.cut.now c.args.origin.now c.args.order.now) (sym same)
    (are_marked c.args.cut.now c.args.order.now c.args.origin.now new c.deref.result.now (c.deref.ensures.value ∙ c.in_ok-back.ensures)
    c.in_ok-mark_before_fresh.ensures.marked)
