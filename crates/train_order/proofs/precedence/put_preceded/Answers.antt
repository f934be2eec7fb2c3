use Rattle.std.proofs.Common.{◌||◌, ◌∙◌, sym, ap, arith}
use Rattle.plan_model.specs.Members.{member, precedes}
use Rattle.train_order.proofs.Ranges.{any_more}
use Rattle.train_order.proofs.precedence.put_preceded.Goals as goal

pub loop-place-preserved : goal.loop-place-preserved
loop-place-preserved c =
    let cut = c.args.cut.now in
    let place = c.loop-place.place in
    record {
      room = omega arith;
      count = c.put_preceded_at.ensures.count ∙ c.loop-place.invariant.count;
      each = λ i j li lj.
          c.put_preceded_at.ensures.sets i j li lj
          ∙ ap (λ b. b || precedes (member cut i) (member cut j) place) (c.loop-place.invariant.each i j li lj)
          ∙ sym (any_more (precedes (member cut i) (member cut j)) place);
    }
