use Rattle.std.proofs.Common.{◌≡◌, ◌<◌, ℕ, List, length, map, sym, ap, subst, ◌∙◌, arith}
use Rattle.std.specs.Prelude.{ℤ, All, IfSome, Option, None, slice_index_or}
use Rattle.std.specs.Option.{option_map}
use Rattle.std.proofs.lemmas.List.{length-map}
use Rattle.plan_model.specs.declared.cut.Cut.{Cut}
use Rattle.plan_model.specs.declared.answer.Tie.TheVariants.{Start}
use Rattle.plan_model.specs.Members.{member_count}
use Rattle.plan_model.specs.Schedule.{window_floor, window_start, entry_at}
use Rattle.train_order.proofs.Apart.{below}
use Rattle.train_placing.specs.declared.last.Last.{Last}
use Rattle.train_net.specs.Net.{edges_to}
use Rattle.train_net.specs.Read.{AreSolved, IsTieBy, IsLeftAlong}
use Rattle.train_net.specs.Reading.{IsReal, last_by}
use Rattle.train_net.proofs.Ended.{all_real, all_left, window_is_floor}
use Rattle.train_net.proofs.plan.placing.Goals as goal

pub lasts-requires-clause-real : goal.lasts-requires-clause-real
lasts-requires-clause-real c =
    let cut = c.args.cut.now in
    let order = c.args.net.now.order in
    subst (λ (k : Cut). All (λ n. IfSome n (IsReal k)) c.args.last.now) (sym c.sound.ensures.cut)
    (all_real cut order (below cut order c.requires.net.net.in_order.each_once) (length order) (omega arith) c.sound.ensures.sound
    c.args.last.now c.requires.places c.requires.last)

pub returns-clause-read : goal.returns-clause-read
returns-clause-read c =
    let cut = c.args.cut.now in
    let order = c.args.net.now.order in
    let edges = c.args.net.now.edges in
    let near = c.args.last.now in
    let e = c.in_ok-entries.entries.items in
    let ties = c.in_ok-ties.ties.items in
    let solved : AreSolved cut (window_floor cut) edges e =
    c.in_ok-entries.ensures.solved in
    let tied : (j : ℕ) → j < member_count cut
    → IsTieBy cut (window_start cut) (edges_to edges j) e (entry_at e j) (slice_index_or ties j Start) =
    subst (λ (xs : List ℤ). (j : ℕ) → j < member_count cut
    → IsTieBy cut (window_start cut) (edges_to edges j) xs (entry_at xs j) (slice_index_or ties j Start)) c.deref.ensures.value
    c.in_ok-ties.ensures.tied in
    let lasts : c.in_ok-last.last.items ≡ map (option_map (last_by cut e)) near =
    c.in_ok-last.ensures
    ∙ ap (λ (k : Cut). map (option_map (last_by k c.deref-2.result.now)) near) c.sound.ensures.cut
    ∙ ap (λ (xs : List ℤ). map (option_map (last_by cut xs)) near) c.deref-2.ensures.value in
    record {
      entries_count = c.in_ok-entries.ensures.count;
      ties_count = c.in_ok-ties.ensures.count;
      places = ap length lasts ∙ length-map near (option_map (last_by cut e)) ∙ c.requires.places;
      floors = λ j l. window_is_floor cut c.sound.ensures.sound j;
      solved = solved;
      tied = tied;
      left = λ p l.
          subst (λ (ls : List (Option Last)). IsLeftAlong cut order e p (slice_index_or ls p None)) (sym lasts)
          (all_left cut order c.requires.net.net.in_order e near c.requires.places c.requires.last p l);
    }
