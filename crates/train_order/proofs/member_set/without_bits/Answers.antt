use Rattle.std.proofs.Common.{◌≡◌, ℕ, ◌-◌, ◌<◌, ◌==◌, ◌&&◌, not, min, arith, tests, w64, ap, ◌∙◌}
use Rattle.std.proofs.lemmas.Bool.Decides.{nat_tests}
use Rattle.std.proofs.lemmas.Nat.Bits.{bit_at_and, bit_at_not, bit_at-lt}
use Rattle.train_order.proofs.member_set.without_bits.Goals as goal

alone : (a b m : ℕ) → a < 2 → b < 2 → m ≡ min a (1 - b) → (m == 1) ≡ ((a == 1) && not (b == 1))
alone a b m p q e = grind (arith, tests, nat_tests)

pub returns : goal.returns
returns c = λ i l.
    alone _ _ _ (bit_at-lt c.args.word i) (bit_at-lt c.args.other i)
    (bit_at_and c.args.word _ i ∙ ap (min _) (bit_at_not w64 c.args.other i c.ranges.other.fits l))
