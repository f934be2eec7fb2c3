use Rattle.std.proofs.Common.{◌*◌, inl, inr, arith}
use Rattle.std.proofs.lemmas.Bool.{cases_lt}
use Rattle.train_order.proofs.First.{both_in_word, outside_in_word}
use Rattle.train_order.proofs.member_set.MemberSet.first_outside.Goals as goal

pub loop-place-preserved : goal.loop-place-preserved
loop-place-preserved c = λ k l h.
    let place = c.loop-place.place in
    elim (cases_lt k (64 * place)) [
      | inl a ↦ c.loop-place.invariant k a h
      | inr b ↦
          both_in_word c.args.self.now.words c.args.other.now.words place c.without_bits.result c.bit_from-bit.result
          c.without_bits.ensures c.bit_from-bit.ensures k b (omega (arith, c.if-bit-lt-WORD.false)) h
    ]

pub returns-then-bit-lt-WORD : goal.returns-then-bit-lt-WORD
returns-then-bit-lt-WORD c =
    outside_in_word c.args.self.now.words c.args.other.now.words c.loop-place.place c.without_bits.result c.bit_from-bit.result
    c.without_bits.ensures c.bit_from-bit.ensures c.loop-place.invariant c.if-bit-lt-WORD.true

pub returns : goal.returns
returns c = record {
  none = λ k l. c.loop-place.invariant k (omega (arith, c.loop-place-test.false));
  there = λ l. absurd (omega arith);
  outside = λ l. absurd (omega arith);
}
