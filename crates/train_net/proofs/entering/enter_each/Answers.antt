use Rattle.std.proofs.Common.{◌≡◌, ◌+◌, ◌<◌, set, List, length, get_or, rules, sym, ap, subst, ◌∙◌, arith, to_z, of_z, w64}
use Rattle.std.specs.Prelude.{All}
use Rattle.plan_model.specs.Schedule.{window_start}
use Rattle.train_order.proofs.Next.{count}
use Rattle.train_net.specs.declared.edge.Edge.{Edge}
use Rattle.train_net.specs.Net.{edges_to}
use Rattle.train_net.specs.Read.{IsSolved}
use Rattle.train_net.specs.Reading.{IsShort}
use Rattle.train_net.proofs.Entered.{AreEntered, train_there, from_there, all_short, next_entered, all_near, all_solved}
use Rattle.train_net.proofs.entering.enter_each.Goals as goal

pub of-to-requires : goal.of-to-requires
of-to-requires c =
    let l = train_there c.args.cut.now c.args.order.now c.args.edges.now c.sound.ensures.sound c.requires.net c.loop-train.train-index
    c.loop-train-test.true in
    omega (arith, l, c.requires.lists)

pub bounds-entries-train : goal.bounds-entries-train
bounds-entries-train c =
    let l = train_there c.args.cut.now c.args.order.now c.args.edges.now c.sound.ensures.sound c.requires.net c.loop-train.train-index
    c.loop-train-test.true in
    omega (arith, l, c.loop-train.invariant.count)

pub earliest-requires-clause-near : goal.earliest-requires-clause-near
earliest-requires-clause-near c =
    let cut = c.args.cut.now in
    let order = c.args.order.now in
    all_near cut order c.args.edges.now c.sound.ensures.sound c.requires.net c.loop-train.train-index c.loop-train.entries
    (omega (arith, c.loop-train-test.true, count cut order c.requires.net.in_order, c.sound.ensures.few)) c.loop-train.invariant

pub earliest-requires-clause-there : goal.earliest-requires-clause-there
earliest-requires-clause-there c =
    let cut = c.args.cut.now in
    let order = c.args.order.now in
    let edges = c.args.edges.now in
    let n = c.loop-train.train-index in
    let j = get_or order n 0 in
    let lj = train_there cut order edges c.sound.ensures.sound c.requires.net n c.loop-train-test.true in
    let to = c.of-to.ensures in
    subst (λ (es : List Edge). All (λ e. e.from < length c.loop-train.entries) es) (sym to)
    (subst (λ m. All (λ e. e.from < m) (edges_to edges j)) (sym c.loop-train.invariant.count)
    (from_there cut order edges c.sound.ensures.sound c.requires.net j lj))

pub earliest-requires-clause-short : goal.earliest-requires-clause-short
earliest-requires-clause-short c =
    let cut = c.args.cut.now in
    let order = c.args.order.now in
    let edges = c.args.edges.now in
    let n = c.loop-train.train-index in
    let j = get_or order n 0 in
    let lj = train_there cut order edges c.sound.ensures.sound c.requires.net n c.loop-train-test.true in
    let to = c.of-to.ensures in
    subst (λ (es : List Edge). All (λ e. IsShort e.weight) es) (sym to)
    (all_short cut order edges c.sound.ensures.sound c.requires.net j lj)

pub loop-train-preserved : goal.loop-train-preserved
loop-train-preserved c =
    let cut = c.args.cut.now in
    let order = c.args.order.now in
    let edges = c.args.edges.now in
    let entries = c.loop-train.entries in
    let n = c.loop-train.train-index in
    let j = get_or order n 0 in
    let lj = train_there cut order edges c.sound.ensures.sound c.requires.net n c.loop-train-test.true in
    let to = c.of-to.ensures in
    let next = c.earliest.result in
    let fits : to_z w64 (of_z w64 next) ≡ next = search rules in
    let start : to_z w64 (of_z w64 c.window_start-start.result) ≡ window_start cut =
    (let f : to_z w64 (of_z w64 c.window_start-start.result) ≡ c.window_start-start.result = search rules in f)
    ∙ c.window_start-start.ensures.start ∙ ap window_start c.sound.ensures.cut in
    let solved : IsSolved (window_start cut) (edges_to edges j) entries next =
    subst (λ t. IsSolved t (edges_to edges j) entries next) start
    (subst (λ (es : List Edge). IsSolved (to_z w64 (of_z w64 c.window_start-start.result)) es entries next) to c.earliest.ensures) in
    subst (λ t. AreEntered cut order edges (n + 1) (set entries j t)) (sym fits)
    (next_entered cut order edges c.sound.ensures.sound c.requires.net n entries next c.loop-train-test.true c.loop-train.invariant solved)

pub returns-clause-near : goal.returns-clause-near
returns-clause-near c =
    let cut = c.args.cut.now in
    let order = c.args.order.now in
    all_near cut order c.args.edges.now c.sound.ensures.sound c.requires.net c.loop-train.train-index c.loop-train.entries
    (omega (arith, c.loop-train.auto.train-index-end, count cut order c.requires.net.in_order, c.sound.ensures.few)) c.loop-train.invariant

pub returns-clause-solved : goal.returns-clause-solved
returns-clause-solved c =
    all_solved c.args.cut.now c.args.order.now c.args.edges.now c.sound.ensures.sound c.requires.net c.loop-train.train-index
    c.loop-train.entries c.loop-train-test.false c.loop-train.invariant
