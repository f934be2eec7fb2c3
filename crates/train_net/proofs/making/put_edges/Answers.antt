use Rattle.std.proofs.Common.{◌<◌, length, get_or, sym, ap, subst, ◌∙◌, arith}
use Rattle.std.specs.Prelude.{None, slice_index_or, All, find, ◌==◌}
use Rattle.std.proofs.lemmas.List.{get_or-replicate, length-replicate}
use Rattle.rail_model.specs.declared.stair.Use.{Use}
use Rattle.plan_model.specs.declared.cut.CutRow.{CutRow}
use Rattle.plan_model.specs.Members.{member, place_count}
use Rattle.plan_model.specs.Cut.{AreOfOtherPlaces}
use Rattle.plan_model.proofs.Sound.{differ, usable}
use Rattle.train_order.proofs.Apart.{below}
use Rattle.train_net.specs.Near.{near_by}
use Rattle.train_net.proofs.Walking.{no_edges_yet, next_ahead, next_edges}
use Rattle.train_net.proofs.making.put_edges.Goals as goal

pub loop-train-init : goal.loop-train-init
loop-train-init c =
    let cut = c.args.cut.now in
    no_edges_yet cut c.args.order.now c.requires.sound c.requires.order c.args.edges.now c.args.near.now c.requires.lists
    (ap length c.requires.none ∙ length-replicate (place_count cut) None)
    (λ p l. ap (λ ns. slice_index_or ns p None) c.requires.none ∙ get_or-replicate (place_count cut) p None None l)

pub edges_from-requires-clause-there : goal.edges_from-requires-clause-there
edges_from-requires-clause-there c =
    below c.args.cut.now c.args.order.now c.requires.order.each_once c.loop-train.train-index 0 c.loop-train-test.true

pub edges_from-requires-clause-ahead : goal.edges_from-requires-clause-ahead
edges_from-requires-clause-ahead c =
    next_ahead c.args.cut.now c.args.order.now c.requires.sound c.requires.order c.loop-train.train-index c.loop-train-test.true
    c.loop-train.edges c.loop-train.near c.loop-train.invariant

pub bounds-edges-train : goal.bounds-edges-train
bounds-edges-train c =
    let l = below c.args.cut.now c.args.order.now c.requires.order.each_once c.loop-train.train-index 0 c.loop-train-test.true in
    omega (arith, l, c.loop-train.invariant.lists)

pub row-requires : goal.row-requires
row-requires c = below c.args.cut.now c.args.order.now c.requires.order.each_once c.loop-train.train-index 0 c.loop-train-test.true

pub pass-requires-clause-there : goal.pass-requires-clause-there
pass-requires-clause-there c =
    let cut = c.args.cut.now in
    let j = get_or c.args.order.now c.loop-train.train-index 0 in
    let lj = below cut c.args.order.now c.requires.order.each_once c.loop-train.train-index 0 c.loop-train-test.true in
    let uses = c.slice.ensures ∙ ap (λ (r : CutRow). r.uses) c.row.ensures.row in
    subst (λ us. All (λ (u : Use). u.block < length c.loop-train.near) us) (sym uses)
    (subst (λ n. All (λ (u : Use). u.block < n) (member cut j).uses) (sym c.loop-train.invariant.places)
    (usable cut c.requires.sound j lj).there)

pub pass-requires-clause-differ : goal.pass-requires-clause-differ
pass-requires-clause-differ c =
    let cut = c.args.cut.now in
    let j = get_or c.args.order.now c.loop-train.train-index 0 in
    let lj = below cut c.args.order.now c.requires.order.each_once c.loop-train.train-index 0 c.loop-train-test.true in
    let uses = c.slice.ensures ∙ ap (λ (r : CutRow). r.uses) c.row.ensures.row in
    subst AreOfOtherPlaces (sym uses) (differ cut c.requires.sound j lj)

pub loop-train-preserved : goal.loop-train-preserved
loop-train-preserved c =
    let cut = c.args.cut.now in
    let order = c.args.order.now in
    let n = c.loop-train.train-index in
    let j = get_or order n 0 in
    let near = c.loop-train.near in
    let uses = c.slice.ensures ∙ ap (λ (r : CutRow). r.uses) c.row.ensures.row in
    next_edges cut order c.requires.sound c.requires.order n c.loop-train-test.true c.loop-train.edges near c.loop-train.invariant
    c.in_ok-to.to c.pass.new.near c.in_ok-to.ensures.real c.in_ok-to.ensures.covered c.pass.ensures.count
    (λ p l. c.pass.ensures.all p l ∙ ap (λ us. near_by j (find (λ u. u.block == p) us) (slice_index_or near p None)) uses)

pub returns : goal.returns
returns c =
    let inv = c.loop-train.invariant in
    record {
      lists = inv.lists ∙ sym c.requires.lists;
      each = λ at l. inv.each at (omega (arith, l, c.loop-train-test.false));
    }
