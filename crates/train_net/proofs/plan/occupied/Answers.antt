use Rattle.std.proofs.Common.{◌≡◌, ◌<◌, ℕ, List, length, reverse, sym, ap, subst, ◌∙◌, arith}
use Rattle.std.specs.Prelude.{All, IfSome, Option, None, slice_index_or}
use Rattle.std.specs.List.{range_with_len}
use Rattle.plan_model.specs.declared.cut.Cut.{Cut}
use Rattle.plan_model.specs.Members.{place_count, block_count, member_count}
use Rattle.plan_model.specs.Answer as occupied
use Rattle.occupancy_rate.specs.declared.spans.Span.{Span}
use Rattle.occupancy_rate.specs.Spans.{AreSpans}
use Rattle.train_order.proofs.Apart.{below}
use Rattle.train_net.specs.declared.near.Near.{Near}
use Rattle.train_net.specs.Near.{AreNear}
use Rattle.train_net.specs.Reading.{IsReal, span_by}
use Rattle.train_net.proofs.Ended.{all_real, all_back, spans_are}
use Rattle.train_net.proofs.plan.occupied.Goals as goal

pub last_users-requires : goal.last_users-requires
last_users-requires c =
    let cut = c.args.cut.now in
    let order = c.args.net.now.order in
    let back = c.deref.ensures.value ∙ c.in_ok-back.ensures ∙ ap reverse c.slice.ensures in
    record {
      there =
          subst (λ (os : List ℕ). All (λ i. i < member_count c.sound-sound.result.now) os) (sym back)
          (subst (λ (k : Cut). All (λ i. i < member_count k) (reverse order)) (sym c.sound-sound.ensures.cut)
          (all_back (member_count cut) order (below cut order c.requires.net.net.in_order.each_once)));
    }

pub spans-requires-clause-first : goal.spans-requires-clause-first
spans-requires-clause-first c =
    let cut = c.args.cut.now in
    let order = c.args.net.now.order in
    let first = c.in_ok-first.first.items in
    let back = c.deref.ensures.value ∙ c.in_ok-back.ensures ∙ ap reverse c.slice.ensures in
    let shown = c.sound-sound.ensures.cut in
    let near : AreNear cut (reverse order) (length (reverse order)) (range_with_len 0 (place_count cut)) first =
    subst (λ (k : Cut). AreNear k (reverse order) (length (reverse order)) (range_with_len 0 (place_count k)) first) shown
    (subst (λ (os : List ℕ). AreNear c.sound-sound.result.now os (length os)
    (range_with_len 0 (place_count c.sound-sound.result.now)) first) back c.in_ok-first.ensures.near) in
    subst (λ (ns : List (Option Near)). All (λ n. IfSome n (IsReal c.sound-sound.result.now)) ns) (sym c.deref-2.ensures.value)
    (subst (λ (k : Cut). All (λ n. IfSome n (IsReal k)) first) (sym shown)
    (all_real cut (reverse order)
    (all_back (member_count cut) order (below cut order c.requires.net.net.in_order.each_once))
    (length (reverse order)) (omega arith) c.sound-sound.ensures.sound first (c.in_ok-first.ensures.places ∙ ap place_count shown) near))

pub spans-requires-clause-last : goal.spans-requires-clause-last
spans-requires-clause-last c =
    let cut = c.args.cut.now in
    let order = c.args.net.now.order in
    subst (λ (k : Cut). All (λ n. IfSome n (IsReal k)) c.args.last.now) (sym c.sound-sound.ensures.cut)
    (all_real cut order (below cut order c.requires.net.net.in_order.each_once) (length order) (omega arith) c.sound-sound.ensures.sound
    c.args.last.now c.requires.places c.requires.last)

pub returns : goal.returns
returns c =
    let cut = c.args.cut.now in
    let order = c.args.net.now.order in
    let entries = c.args.entries.now in
    let first = c.in_ok-first.first.items in
    let last = c.args.last.now in
    let spans = c.in_ok-spans.spans.items in
    let back = c.deref.ensures.value ∙ c.in_ok-back.ensures ∙ ap reverse c.slice.ensures in
    let shown = c.sound-sound.ensures.cut in
    let near : AreNear cut (reverse order) (length (reverse order)) (range_with_len 0 (place_count cut)) first =
    subst (λ (k : Cut). AreNear k (reverse order) (length (reverse order)) (range_with_len 0 (place_count k)) first) shown
    (subst (λ (os : List ℕ). AreNear c.sound-sound.result.now os (length os)
    (range_with_len 0 (place_count c.sound-sound.result.now)) first) back c.in_ok-first.ensures.near) in
    let each : (b : ℕ) → b < block_count cut
    → slice_index_or spans b None ≡ span_by cut entries (slice_index_or first b None) (slice_index_or last b None) =
    subst (λ (ns : List (Option Near)). (b : ℕ) → b < block_count cut
    → slice_index_or spans b None ≡ span_by cut entries (slice_index_or ns b None) (slice_index_or last b None)) c.deref-2.ensures.value
    (subst (λ (k : Cut). (b : ℕ) → b < block_count k
    → slice_index_or spans b None ≡ span_by k entries (slice_index_or c.deref-2.result.now b None) (slice_index_or last b None)) shown
    c.in_ok-spans.ensures.each) in
    let are : AreSpans cut entries spans =
    spans_are cut c.sound-sound.ensures.sound order c.args.net.now.edges c.requires.net.net entries c.requires.solved first last spans near
    c.requires.last (c.in_ok-spans.ensures.count ∙ ap block_count shown) each in
    let same : c.cut.result.now ≡ cut = c.cut.ensures.cut ∙ shown in
    let told : AreSpans c.cut.result.now entries c.deref-3.result.now =
    subst (λ (ss : List (Option Span)). AreSpans c.cut.result.now entries ss) (sym c.deref-3.ensures.value)
    (subst (λ (k : Cut). AreSpans k entries spans) (sym same) are) in
    record {
      time = c.occupancy_of.ensures.time entries told ∙ ap (λ (k : Cut). occupied.occupancy k entries) same;
      busiest = c.occupancy_of.ensures.busiest entries told ∙ ap (λ (k : Cut). occupied.busiest k entries) same;
    }
