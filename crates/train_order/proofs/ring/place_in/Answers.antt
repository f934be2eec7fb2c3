use Rattle.std.proofs.Common.{◌==◌, length, sym, arith}
use Rattle.std.proofs.lemmas.Bool.{eq-eqb, ne_eqb}
use Rattle.std.proofs.lemmas.List.Sums.{position_or_len_is}
use Rattle.train_order.proofs.ring.place_in.Goals as goal

pub returns-then-other-member : goal.returns-then-other-member
returns-then-other-member c =
    sym (position_or_len_is (λ m. m == c.args.member) c.args.walk.now c.loop-k.k 0 (omega (arith, c.loop-k-test.true))
    (λ k l. ne_eqb _ _ (c.loop-k.invariant k l)) (λ l. eq-eqb _ _ c.if-other-member.true))

pub returns : goal.returns
returns c =
    sym (position_or_len_is (λ m. m == c.args.member) c.args.walk.now (length c.args.walk.now) 0 (omega arith)
    (λ k l. ne_eqb _ _ (c.loop-k.invariant k (omega (arith, l, c.loop-k-test.false)))) (λ l. absurd (omega arith)))
