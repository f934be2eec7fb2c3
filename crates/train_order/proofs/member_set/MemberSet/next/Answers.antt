use Rattle.std.proofs.Common.{◌≡◌, ◌+◌, ◌*◌, ◌/◌, ◌%◌, subst, arith}
use Rattle.train_order.specs.Sets.{IsFirstMember}
use Rattle.train_order.proofs.First.{none_in_word, first_in_word, first_later, first_past}
use Rattle.train_order.proofs.member_set.MemberSet.next.Goals as goal

pub returns-then-from-ge-MEMBERS : goal.returns-then-from-ge-MEMBERS
returns-then-from-ge-MEMBERS c = first_past c.args.self.now.words c.args.from c.args.from (omega arith) (omega arith) (λ k low high. absurd (omega arith))

pub returns-then-bit-lt-WORD : goal.returns-then-bit-lt-WORD
returns-then-bit-lt-WORD c =
    let words = c.args.self.now.words in
    let from = c.args.from in
    let bit = c.bit_from-bit.result in
    let whole : 64 * (from / 64) + from % 64 ≡ from = omega arith in
    subst (λ m. IsFirstMember words m (64 * (from / 64) + bit)) whole
    (first_in_word words (from / 64) (from % 64) bit c.bit_from-bit.ensures c.if-bit-lt-WORD.true)

pub returns : goal.returns
returns c =
    let words = c.args.self.now.words in
    let from = c.args.from in
    first_later words from (64 * (from / 64) + 64) c.first_after.result (omega arith)
    (λ k low high. none_in_word words (from / 64) (from % 64) c.bit_from-bit.result c.bit_from-bit.ensures k (omega arith) (omega (arith, c.if-bit-lt-WORD.false)))
    c.first_after.ensures
