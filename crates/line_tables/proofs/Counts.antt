-- Counts of keys in lists of keys.
use Rattle.std.proofs.Common.{◌≡◌, ℕ, ◌+◌, ◌<◌, ◌≤◌, ◌==◌, List, length, get_or, take, inl, inr, arith}
use Rattle.std.proofs.lemmas.Bool.{cases_lt, eq-eqb}
use Rattle.std.proofs.lemmas.List.{get_or_past}
use Rattle.std.proofs.lemmas.List.Sums.{count_by_more_yes, sum_by-take-le}
use Rattle.std.specs.Prelude.{cond}
use Rattle.line_tables.specs.KeyCounts.{count_of, times, SameCounts, HasRoomFor}

-- a key that stands at place i is counted there
pub times_at : (keys : List ℕ) (i k : ℕ) → i < length keys → get_or keys i 0 ≡ k → times k (take i keys) + 1 ≤ times k keys
times_at keys i k l e =
    omega (arith, count_by_more_yes (λ q. q == k) keys i 0 l (eq-eqb (get_or keys i 0) k e), sum_by-take-le (λ q. cond (q == k) 1 0) keys (i + 1))

-- a count above 0 is one of the list
pub counted_within : (counts : List ℕ) (k : ℕ) → 1 ≤ count_of counts k → k < length counts
counted_within counts k some =
    elim (cases_lt k (length counts)) [ inl l ↦ l | inr past ↦ absurd (omega (arith, get_or_past counts k 0 past)) ]

-- room stays where counts stay and the list grows
pub HasRoomFor-longer : (old new : List ℕ) (more k : ℕ) → SameCounts old new → length old ≤ length new → HasRoomFor old more k → HasRoomFor new more k
HasRoomFor-longer old new more k same longer room =
    let within : k < length old = room.within in
    let below = room.below in
    record { within = omega arith; below = omega (arith, same k) }
