use Rattle.std.proofs.Common.{◌≡◌, ◌<◌, rules, sym, ap, subst, ◌∙◌, to_z, of_z, w64}
use Rattle.std.specs.Prelude.{pos, nat_abs, All}
use Rattle.plan_model.specs.declared.cut.Cut.{Cut}
use Rattle.plan_model.specs.Members.{block_count, member, uses_place}
use Rattle.plan_model.specs.Cut.{IsBounded}
use Rattle.plan_model.specs.Schedule.{window_start}
use Rattle.plan_model.specs.Answer.{occupancy}
use Rattle.train_placing.specs.Last.{IsNearLast}
use Rattle.path_fill.specs.Search.{asked, kept_to, time_at, IsGreatest, IsFillBy}
use Rattle.path_fill.proofs.FoundFill.{bounded, near, own_some, found_is}
use Rattle.path_fill.proofs.filling.fill_in.Goals as goal

pub first_copy-entry-requires-clause-near : goal.first_copy-entry-requires-clause-near
first_copy-entry-requires-clause-near c =
    let placing = c.in_ok-placing.placing in
    subst (All IsNearLast) (sym c.deref.ensures.value)
    (near c.args.cut.now c.args.order.now placing.entries.items placing.ties.items placing.last.items
    c.sound-sound.ensures.sound c.sound-sound.ensures.few c.requires.order c.in_ok-placing.ensures)

pub times_kept-alone-requires-clause-bounded : goal.times_kept-alone-requires-clause-bounded
times_kept-alone-requires-clause-bounded c =
    let placing = c.in_ok-placing.placing in
    subst (All IsBounded) (sym c.deref-2.ensures.value)
    (bounded c.args.cut.now c.args.order.now placing.entries.items placing.ties.items placing.last.items
    c.sound-sound.ensures.sound c.sound-sound.ensures.few c.requires.order c.in_ok-placing.ensures)

pub fill_up-requires-clause-some : goal.fill_up-requires-clause-some
fill_up-requires-clause-some c =
    let cut = c.args.cut.now in
    let r = c.args.row in
    let h = c.own_headway-headway.result in
    let cast : to_z w64 (of_z w64 h) ≡ h = search rules in
    let times : IsGreatest (uses_place (member cut r)) (time_at cut r) (block_count cut) (pos 0) h =
    subst (λ (k : Cut). IsGreatest (uses_place (member k r)) (time_at k r) (block_count k) (pos 0) h)
    c.sound-sound.ensures.cut c.own_headway-headway.ensures.greatest in
    subst (λ x. 0 < nat_abs x) (sym cast) (own_some cut c.sound-sound.ensures.sound r c.requires.there h times)

pub returns : goal.returns
returns c =
    let cut = c.args.cut.now in
    let r = c.args.row in
    let placing = c.in_ok-placing.placing in
    let entries = placing.entries.items in
    let last = placing.last.items in
    let same = c.sound-sound.ensures.cut in
    let again = c.cut.ensures.cut ∙ same in
    let e = c.first_copy-entry.result in
    let f = c.times_kept-alone.result.1 in
    let h = c.own_headway-headway.result in
    let entry : to_z w64 (of_z w64 e) ≡ e = search rules in
    let first : to_z w64 (of_z w64 f) ≡ f = search rules in
    let headway : to_z w64 (of_z w64 h) ≡ h = search rules in
    let asks : IsGreatest (uses_place (member cut r)) (asked cut r last) (block_count cut) (window_start cut) e =
    subst (λ ls. IsGreatest (uses_place (member cut r)) (asked cut r ls) (block_count cut) (window_start cut) e)
    c.deref.ensures.value
    (subst (λ (k : Cut).
    IsGreatest (uses_place (member k r)) (asked k r c.deref.result.now) (block_count k) (window_start k) e)
    same c.first_copy-entry.ensures.greatest) in
    let keeps : IsGreatest (uses_place (member cut r)) (kept_to cut r entries e) (block_count cut) (pos 0) f =
    subst (λ x. IsGreatest (uses_place (member cut r)) (kept_to cut r entries x) (block_count cut) (pos 0) f) entry
    (subst (λ es.
    IsGreatest (uses_place (member cut r)) (kept_to cut r es (to_z w64 (of_z w64 e))) (block_count cut) (pos 0) f)
    c.deref-2.ensures.value
    (subst (λ (k : Cut).
    IsGreatest (uses_place (member k r)) (kept_to k r c.deref-2.result.now (to_z w64 (of_z w64 e))) (block_count k)
    (pos 0) f)
    same c.times_kept-alone.ensures.first)) in
    let times : IsGreatest (uses_place (member cut r)) (time_at cut r) (block_count cut) (pos 0) h =
    subst (λ (k : Cut). IsGreatest (uses_place (member k r)) (time_at k r) (block_count k) (pos 0) h)
    same c.own_headway-headway.ensures.greatest in
    let alone : c.times_kept-alone.result.0 ≡ occupancy cut entries =
    c.times_kept-alone.ensures.alone ∙ ap (λ (k : Cut). occupancy k c.deref-2.result.now) same
    ∙ ap (occupancy cut) c.deref-2.ensures.value in
    let by : IsFillBy cut.section c.times_kept-alone.result.0 (nat_abs f) (nat_abs h) c.fill_up.result =
    subst (λ x. IsFillBy cut.section c.times_kept-alone.result.0 (nat_abs f) (nat_abs x) c.fill_up.result) headway
    (subst (λ x.
    IsFillBy cut.section c.times_kept-alone.result.0 (nat_abs x) (nat_abs (to_z w64 (of_z w64 h))) c.fill_up.result)
    first
    (subst (λ (k : Cut).
    IsFillBy k.section c.times_kept-alone.result.0 (nat_abs (to_z w64 (of_z w64 f))) (nat_abs (to_z w64 (of_z w64 h)))
    c.fill_up.result)
    again c.fill_up.ensures)) in
    found_is cut c.args.order.now entries placing.ties.items last c.sound-sound.ensures.sound c.sound-sound.ensures.few
    c.requires.order c.in_ok-placing.ensures r c.requires.there c.requires.none e f h c.times_kept-alone.result.0
    c.fill_up.result asks keeps times alone by
