-- Pairs of members, the lesser first, and the least of some.
use Rattle.std.specs.Prelude.{◌≡◌, ℕ, ◌<◌, true, false, nat_lt, if◌then◌else◌, Option, Some, None}
use Rattle.plan_model.specs.declared.cut.Cut.{Cut}
use Rattle.plan_model.specs.Members.{member_count}
use Rattle.plan_model.specs.Disorder.{are_opposite}

-- two numbers as a pair
abbrev pub pair_with : ℕ → ℕ → ℕ × ℕ
pair_with i j = if nat_lt j i then (j, i) else (i, j)

-- a pair so far, or one with a lesser first number
abbrev pub lesser : Option (ℕ × ℕ) → ℕ × ℕ → Option (ℕ × ℕ)
lesser None p = Some p
lesser (Some q) p = if nat_lt p.0 q.0 then Some p else Some q

-- a pair so far, or that of a number with another, if there is one
abbrev pub least_with : Option (ℕ × ℕ) → ℕ → Option ℕ → Option (ℕ × ℕ)
least_with least i None = least
least_with least i (Some j) = lesser least (pair_with i j)

-- a member is the first that is opposite to member i; where there is none, no member is opposite to it
abbrev pub IsFirstOpposite : Cut → ℕ → Option ℕ → Type 0
IsFirstOpposite cut i (Some j) =
    (j < member_count cut) × (are_opposite cut i j ≡ true) × ((k : ℕ) → k < j → are_opposite cut i k ≡ false)
IsFirstOpposite cut i None = (k : ℕ) → k < member_count cut → are_opposite cut i k ≡ false
