use Rattle.std.proofs.Common.{◌≡◌, ◌<◌, length, get_or, inl, inr, sym, ap, subst, ◌∙◌, arith}
use Rattle.std.specs.Prelude.{None, Some, IfSome, slice_index_or, Any, Option}
use Rattle.std.specs.Option.{option_map}
use Rattle.std.proofs.lemmas.Bool.{cases_eq}
use Rattle.std.proofs.lemmas.Result.{IfOk-weaker}
use Rattle.rail_model.specs.declared.stair.Use.{Use}
use Rattle.rail_model.specs.Moment.{IsMoment}
use Rattle.plan_model.specs.declared.cut.CutRow.{CutRow}
use Rattle.plan_model.specs.Members.{member, no_use}
use Rattle.train_net.specs.declared.edge.Edge.{Edge}
use Rattle.train_net.specs.Net.{Covers}
use Rattle.train_net.specs.Gathered.{edge_of, with_last, Gathers, AreCovered}
use Rattle.train_net.proofs.Ahead.{is_used, next_edge, next_covers, ends, at_places}
use Rattle.train_net.proofs.edges.edges_from.Goals as goal

pub edge_at-next-requires-clause-ends : goal.edge_at-next-requires-clause-ends
edge_at-next-requires-clause-ends c =
    let cut = c.args.cut.now in
    let j = c.args.train in
    let near = c.args.near.now in
    let k = c.loop-one.one-index in
    let items = c.slice-one-items.ensures ∙ ap (λ (r : CutRow). r.uses) c.row.ensures.row in
    let l : k < length (member cut j).uses = omega (arith, c.loop-one-test.true, ap length items) in
    let p = (get_or (member cut j).uses k no_use).block in
    subst (λ us. IfSome (slice_index_or near (get_or us k no_use).block None) (λ n. IsMoment n.one.«end»)) (sym items)
    (ends cut c.row.ensures.sound j c.requires.there (slice_index_or near p None) p
    (c.requires.ahead p (is_used cut c.row.ensures.sound j c.requires.there k l)))

pub loop-one-preserved : goal.loop-one-preserved
loop-one-preserved c =
    let cut = c.args.cut.now in
    let j = c.args.train in
    let near = c.args.near.now in
    let sound = c.row.ensures.sound in
    let lj = c.requires.there in
    let items = c.slice-one-items.ensures ∙ ap (λ (r : CutRow). r.uses) c.row.ensures.row in
    let k = c.loop-one.one-index in
    let l : k < length (member cut j).uses = omega (arith, c.loop-one-test.true, ap length items) in
    let u = get_or (member cut j).uses k no_use in
    let ahead = c.requires.ahead u.block (is_used cut sound j lj k l) in
    let before = with_last c.loop-one.edges c.loop-one.last in
    let after = with_last c.gather.new.edges c.in_ok-last.last in
    let o = slice_index_or near u.block None in
    let same : get_or c.slice-one-items.result.now k no_use ≡ u = ap (λ us. get_or us k no_use) items in
    let next : c.edge_at-next.result ≡ option_map (edge_of cut j u) o =
    c.edge_at-next.ensures ∙ ap (λ (v : Use). option_map (edge_of cut j v) (slice_index_or near v.block None)) same in
    let gathers : Gathers cut before (option_map (edge_of cut j u) o) after =
    subst (λ (n : Option Edge). Gathers cut before n after) next c.in_ok-last.ensures.gathers in
    record {
      real = gathers.real j c.loop-one.invariant.real (next_edge cut sound j lj k l o ahead);
      covered = λ m one lt found.
          elim (cases_eq m k) [
            | inl e ↦
                let here : o ≡ Some one =
                subst (λ (v : Use). slice_index_or near v.block None ≡ Some one) (ap (λ n. get_or c.slice-one-items.result.now n no_use) e ∙ same) found in
                let covers = next_covers cut sound j lj k l o ahead one here in
                subst (λ (v : Use). Any (Covers cut one.train j v.block) after) (sym (ap (λ n. get_or c.slice-one-items.result.now n no_use) e ∙ same))
                (gathers.added one.train j u.block covers.0 covers.1 covers.2)
            | inr differ ↦ gathers.kept one.train j _ (c.loop-one.invariant.covered m one (omega (arith, lt, differ)) found)
          ];
      there = c.in_ok-last.ensures.there;
    }

pub returns-clause-covered : goal.returns-clause-covered
returns-clause-covered c =
    let cut = c.args.cut.now in
    let j = c.args.train in
    let near = c.args.near.now in
    let items = c.slice-one-items.ensures ∙ ap (λ (r : CutRow). r.uses) c.row.ensures.row in
    let all = with_last c.loop-one.edges c.loop-one.last in
    let count = c.loop-one-test.false in
    IfOk-weaker c.closed.result (λ edges. edges ≡ all) (λ edges. AreCovered cut j near edges)
    (λ edges is.
    subst (AreCovered cut j near) (sym is)
    (at_places cut c.row.ensures.sound j c.requires.there near all
    (λ k one l found.
    let same : get_or c.slice-one-items.result.now k no_use ≡ get_or (member cut j).uses k no_use = ap (λ us. get_or us k no_use) items in
    subst (λ (v : Use). Any (Covers cut one.train j v.block) all) same
    (c.loop-one.invariant.covered k one (omega (arith, l, count, ap length items, c.loop-one.auto.one-index-end))
    (subst (λ (v : Use). slice_index_or near v.block None ≡ Some one) (sym same) found)))))
    c.closed.ensures
