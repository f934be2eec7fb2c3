use Rattle.std.proofs.Common.{◌≡◌, ℕ, ◌<◌, ◌==◌, ◌||◌, max, arith, tests}
use Rattle.std.proofs.lemmas.Bool.Decides.{nat_tests}
use Rattle.std.proofs.lemmas.Nat.Bits.{bit_at_or, bit_at-lt}
use Rattle.train_order.proofs.member_set.with_bits.Goals as goal

either : (a b m : ℕ) → a < 2 → b < 2 → m ≡ max a b → (m == 1) ≡ ((a == 1) || (b == 1))
either a b m p q e = grind (arith, tests, nat_tests)

pub returns : goal.returns
returns c = λ i. either _ _ _ (bit_at-lt c.args.word i) (bit_at-lt c.args.other i) (bit_at_or c.args.word c.args.other i)
