use Rattle.std.proofs.Common.{◌≡◌, List, length, get_or, inl, inr, ap, subst, ◌∙◌, arith}
use Rattle.rail_model.specs.declared.stair.Use.{Use}
use Rattle.plan_model.specs.declared.cut.CutRow.{CutRow}
use Rattle.plan_model.specs.Members.{member}
use Rattle.train_order.specs.OutOfTurn.{IsInTurn}
use Rattle.train_order.proofs.Apart.{below}
use Rattle.train_order.proofs.Turn.{HaveTurn, turn_with, turn_without}
use Rattle.train_order.proofs.out_of_turn.few_out_of_turn.Goals as goal

pub row-requires : goal.row-requires
row-requires c = below c.args.cut.now c.args.positions.now c.requires.once c.loop-i.i-index 0 c.loop-i-test.true

pub put_in_turn-left-requires-clause-few : goal.put_in_turn-left-requires-clause-few
put_in_turn-left-requires-clause-few c =
    omega (arith, below c.args.cut.now c.args.positions.now c.requires.once c.loop-i.i-index 0 c.loop-i-test.true, c.requires.few)

pub loop-i-preserved : goal.loop-i-preserved
loop-i-preserved c =
    let cut = c.args.cut.now in
    let positions = c.args.positions.now in
    let n = c.loop-i.i-index in
    let i = get_or positions n 0 in
    let words = c.loop-i.apart.words in
    let more = c.put_in_turn-left.new.apart.words in
    let last = c.loop-i.last in
    let after = c.put_in_turn-left.new.last in
    let by = c.put_in_turn-left.ensures in
    let uses : c.slice.result.now ≡ (member cut i).uses = c.slice.ensures ∙ ap (λ (r : CutRow). r.uses) c.row.ensures.row in
    elim by.turn [
      | inl new ↦
          turn_with cut positions words more n last after by.count by.rise c.loop-i.invariant c.row.ensures.sound c.requires.once
          c.loop-i-test.true (subst (λ (us : List Use). IsInTurn last after words more i us) uses new)
      | inr put ↦ turn_without cut positions words more n last after by.count by.rise c.loop-i.invariant put
    ]

pub returns : goal.returns
returns c =
    let positions = c.args.positions.now in
    let whole : c.loop-i.i-index ≡ length positions = omega (arith, c.loop-i.auto.i-index-end, c.loop-i-test.false) in
    (subst (λ n. HaveTurn c.args.cut.now positions c.loop-i.apart.words n c.loop-i.last) whole c.loop-i.invariant).kept
