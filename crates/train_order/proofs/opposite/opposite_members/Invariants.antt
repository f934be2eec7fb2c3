use Rattle.std.proofs.Common.{◌≡◌, ℕ, ◌+◌, ◌-◌, length, map}
use Rattle.std.specs.Prelude.{find, None}
use Rattle.std.specs.List.{range_with_len, flat_map}
use Rattle.train_order.specs.Opposite.{oppose}
use Rattle.train_order.proofs.opposite.opposite_members.Given as goal

-- no pair so far is opposite
abbrev pub invariant-loop-i : goal.invariant-loop-i
invariant-loop-i l =
    find (λ (p : ℕ × ℕ). oppose l.sets p.0 p.1)
    (flat_map (λ i. map (λ j. (i, j)) (range_with_len (i + 1) (length l.sets - (i + 1)))) (range_with_len 0 l.i)) ≡ None
