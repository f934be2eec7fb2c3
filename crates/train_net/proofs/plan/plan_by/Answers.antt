use Rattle.std.proofs.Common.{◌<◌, ℕ, List, sym, subst}
use Rattle.std.specs.Prelude.{ℤ, All, Option}
use Rattle.plan_model.specs.declared.cut.Cut.{Cut}
use Rattle.plan_model.specs.declared.answer.Tie.{Tie}
use Rattle.plan_model.specs.Members.{member_count}
use Rattle.plan_model.specs.Schedule.{window_floor}
use Rattle.train_order.proofs.Apart.{below}
use Rattle.train_placing.specs.declared.last.Last.{Last}
use Rattle.train_placing.specs.Placing.{ArePlaced}
use Rattle.train_net.proofs.Read.{read_are_placed}
use Rattle.train_net.proofs.plan.plan_by.Goals as goal

pub last_users-requires : goal.last_users-requires
last_users-requires c =
    let cut = c.args.cut.now in
    let order = c.args.net.now.order in
    record {
      there =
          subst (λ (os : List ℕ). All (λ i. i < member_count c.sound.result.now) os) (sym c.slice.ensures)
          (subst (λ (k : Cut). All (λ i. i < member_count k) order) (sym c.sound.ensures.cut)
          (below cut order c.requires.net.net.in_order.each_once));
    }

pub plan_of_occupied-requires-clause-placed : goal.plan_of_occupied-requires-clause-placed
plan_of_occupied-requires-clause-placed c =
    let cut = c.args.cut.now in
    let order = c.args.net.now.order in
    let p = c.in_ok-placing.placing in
    let placed =
    read_are_placed cut (window_floor cut) order c.args.net.now.edges p.entries.items p.ties.items p.last.items c.sound.ensures.sound
    c.requires.net.net c.in_ok-placing.ensures.read in (
      order,
      c.requires.net.net.in_order,
      subst (λ (es : List ℤ). ArePlaced cut (window_floor cut) order es c.deref-5.result.now c.deref-6.result.now) (sym c.deref-4.ensures.value)
          (subst (λ (ts : List Tie). ArePlaced cut (window_floor cut) order p.entries.items ts c.deref-6.result.now) (sym c.deref-5.ensures.value)
          (subst (λ (ls : List (Option Last)). ArePlaced cut (window_floor cut) order p.entries.items p.ties.items ls)
          (sym c.deref-6.ensures.value) placed)),
    )
