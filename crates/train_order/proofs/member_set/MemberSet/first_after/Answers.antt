use Rattle.std.proofs.Common.{◌≤◌, ◌+◌, ◌*◌, inl, inr, arith}
use Rattle.std.proofs.lemmas.Bool.{cases_lt}
use Rattle.plan_model.specs.declared.limits.TheConstants.{MEMBERS}
use Rattle.train_order.proofs.First.{none_in_word, first_in_word, first_later, first_past}
use Rattle.train_order.proofs.member_set.MemberSet.first_after.Goals as goal

pub loop-later-preserved : goal.loop-later-preserved
loop-later-preserved c = λ k low high.
    let later = c.loop-later.later in
    elim (cases_lt k (64 * later)) [
      | inl a ↦ c.loop-later.invariant k low a
      | inr b ↦ none_in_word c.args.self.now.words later 0 c.bit_from-bit.result c.bit_from-bit.ensures k (omega arith) (omega (arith, c.bit_from-bit.ensures.within))
    ]

pub returns-then-bit-lt-WORD : goal.returns-then-bit-lt-WORD
returns-then-bit-lt-WORD c =
    let words = c.args.self.now.words in
    let later = c.loop-later.later in
    let bit = c.bit_from-bit.result in
    first_later words (64 * c.args.place + 64) (64 * later + 0) (64 * later + bit) (omega (arith, c.loop-later.auto.later))
    (λ k low high. c.loop-later.invariant k low (omega arith))
    (first_in_word words later 0 bit c.bit_from-bit.ensures c.if-bit-lt-WORD.true)

pub returns : goal.returns
returns c =
    let done : 12 ≤ c.loop-later.later = omega (arith, c.loop-later-test.false) in
    first_past c.args.self.now.words (64 * c.args.place + 64) MEMBERS (omega arith) (omega (arith, c.requires))
    (λ k low high. c.loop-later.invariant k low (omega arith))
