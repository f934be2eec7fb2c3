use Rattle.std.proofs.Common.{◌≡◌, ◌<◌, List, [], ◌∷◌, length, inl, inr, rules, sym, ap, subst, ◌∙◌, arith, to_z, of_z, w64, length-append}
use Rattle.std.specs.Prelude.{All, slice_index_or}
use Rattle.std.proofs.lemmas.Bool.{cases_eq}
use Rattle.std.proofs.lemmas.List.{get_or_append_left, get_or_push}
use Rattle.plan_model.specs.declared.cut.Cut.{Cut}
use Rattle.plan_model.specs.declared.answer.Tie.{Tie}
use Rattle.plan_model.specs.declared.answer.Tie.TheVariants.{Start}
use Rattle.plan_model.specs.Members.{place_count, member_count}
use Rattle.plan_model.specs.Schedule.{window_start, entry_at}
use Rattle.train_net.specs.declared.edge.Edge.{Edge}
use Rattle.train_net.specs.Net.{edges_to}
use Rattle.train_net.specs.Read.{IsSolved, IsTieBy}
use Rattle.train_net.specs.Reading.{IsShort}
use Rattle.train_net.proofs.Entered.{from_there, places_there, all_short}
use Rattle.train_net.proofs.tying.ties.Goals as goal

pub tie-requires-clause-there : goal.tie-requires-clause-there
tie-requires-clause-there c =
    let edges = c.args.edges.now in
    let j = c.loop-train.train in
    let cut = c.args.cut.now in
    let lj : j < member_count cut = omega (arith, c.loop-train-test.true, c.member_count-train-end.ensures.count) in
    let to = c.of.ensures in
    subst (λ (es : List Edge). All (λ e. e.from < length c.args.entries.now) es) (sym to)
    (subst (λ m. All (λ e. e.from < m) (edges_to edges j)) (sym c.requires.count)
    (from_there cut c.args.order.now edges c.sound-sound.ensures.sound c.requires.net j lj))

pub tie-requires-clause-places : goal.tie-requires-clause-places
tie-requires-clause-places c =
    let edges = c.args.edges.now in
    let j = c.loop-train.train in
    let cut = c.args.cut.now in
    let lj : j < member_count cut = omega (arith, c.loop-train-test.true, c.member_count-train-end.ensures.count) in
    let to = c.of.ensures in
    subst (λ (es : List Edge). All (λ e. e.place < place_count c.sound-sound.result.now) es) (sym to)
    (subst (λ (k : Cut). All (λ e. e.place < place_count k) (edges_to edges j)) (sym c.sound-sound.ensures.cut)
    (places_there cut c.args.order.now edges c.sound-sound.ensures.sound c.requires.net j lj))

pub tie-requires-clause-short : goal.tie-requires-clause-short
tie-requires-clause-short c =
    let edges = c.args.edges.now in
    let j = c.loop-train.train in
    let cut = c.args.cut.now in
    let lj : j < member_count cut = omega (arith, c.loop-train-test.true, c.member_count-train-end.ensures.count) in
    let to = c.of.ensures in
    subst (λ (es : List Edge). All (λ e. IsShort e.weight) es) (sym to)
    (all_short cut c.args.order.now edges c.sound-sound.ensures.sound c.requires.net j lj)

pub tie-requires-clause-solved : goal.tie-requires-clause-solved
tie-requires-clause-solved c =
    let edges = c.args.edges.now in
    let entries = c.args.entries.now in
    let j = c.loop-train.train in
    let cut = c.args.cut.now in
    let lj : j < member_count cut = omega (arith, c.loop-train-test.true, c.member_count-train-end.ensures.count) in
    let to = c.of.ensures in
    let start : to_z w64 (of_z w64 c.window_start-start.result) ≡ window_start cut =
    (let f : to_z w64 (of_z w64 c.window_start-start.result) ≡ c.window_start-start.result = search rules in f)
    ∙ c.window_start-start.ensures.start ∙ ap window_start c.sound-sound.ensures.cut in
    let entry : to_z w64 (of_z w64 (entry_at entries j)) ≡ entry_at entries j = search rules in
    subst (λ t. IsSolved t c.of.result.now entries (to_z w64 (of_z w64 (entry_at entries j)))) (sym start)
    (subst (λ (es : List Edge). IsSolved (window_start cut) es entries (to_z w64 (of_z w64 (entry_at entries j)))) (sym to)
    (subst (IsSolved (window_start cut) (edges_to edges j) entries) (sym entry) (c.requires.solved j lj)))

pub loop-train-preserved : goal.loop-train-preserved
loop-train-preserved c =
    let edges = c.args.edges.now in
    let entries = c.args.entries.now in
    let j = c.loop-train.train in
    let cut = c.args.cut.now in
    let lj : j < member_count cut = omega (arith, c.loop-train-test.true, c.member_count-train-end.ensures.count) in
    let to = c.of.ensures in
    let start : to_z w64 (of_z w64 c.window_start-start.result) ≡ window_start cut =
    (let f : to_z w64 (of_z w64 c.window_start-start.result) ≡ c.window_start-start.result = search rules in f)
    ∙ c.window_start-start.ensures.start ∙ ap window_start c.sound-sound.ensures.cut in
    let entry : to_z w64 (of_z w64 (entry_at entries j)) ≡ entry_at entries j = search rules in
    let t = c.tie.result in
    let here : IsTieBy cut (window_start cut) (edges_to edges j) entries (entry_at entries j) t =
    subst (λ x. IsTieBy cut (window_start cut) (edges_to edges j) entries x t) entry
    (subst (λ (es : List Edge). IsTieBy cut (window_start cut) es entries (to_z w64 (of_z w64 (entry_at entries j))) t) to
    (subst (λ x. IsTieBy cut x c.of.result.now entries (to_z w64 (of_z w64 (entry_at entries j))) t) start
    (subst (λ (k : Cut). IsTieBy k (to_z w64 (of_z w64 c.window_start-start.result)) c.of.result.now entries
    (to_z w64 (of_z w64 (entry_at entries j))) t) c.sound-sound.ensures.cut c.tie.ensures))) in
    let before = c.loop-train.ties.items in
    let items = c.in_ok-push.ensures.items in
    record {
      count = omega (arith, ap length items, length-append before (t ∷ []), c.loop-train.invariant.count);
      tied = λ i l.
          elim (cases_eq i j) [
            | inl e ↦
                let last : slice_index_or c.push.new.self.items i Start ≡ t =
                ap (λ (ts : List Tie). slice_index_or ts i Start) items
                ∙ get_or_push before t Start i (omega (arith, e, c.loop-train.invariant.count)) in
                subst (IsTieBy cut (window_start cut) (edges_to edges i) entries (entry_at entries i)) (sym last)
                (subst (λ k. IsTieBy cut (window_start cut) (edges_to edges k) entries (entry_at entries k) t) (sym e) here)
            | inr differ ↦
                let lt : i < j = omega (arith, l, differ) in
                let kept : slice_index_or c.push.new.self.items i Start ≡ slice_index_or before i Start =
                ap (λ (ts : List Tie). slice_index_or ts i Start) items
                ∙ get_or_append_left before (t ∷ []) Start i (omega (arith, lt, c.loop-train.invariant.count)) in
                subst (IsTieBy cut (window_start cut) (edges_to edges i) entries (entry_at entries i)) (sym kept)
                (c.loop-train.invariant.tied i lt)
          ];
    }
