-- The planned timetable of a cut: its entries, and whether it is free of conflict and keeps its connections.
use Rattle.std.specs.Prelude.{◌≡◌, ◌≢◌, ℕ, ◌<◌, ◌≤◌, ℤ, ◌≤ℤ◌, Bool, false, ◌&&◌, int_lt, List, map, IsTrue}
use Rattle.plan_model.specs.Types.{CutRow, Cut}
use Rattle.plan_model.specs.Members.{block_count, member, member_count, uses_place, use_at, precedes}

-- the planned entries
abbrev pub planned_entries : Cut → List ℤ
planned_entries cut = map (λ r. r.entry) cut.rows

-- members i and j conflict at a place: both use it, and each starts there before the other ends
abbrev pub conflicts : CutRow → CutRow → ℕ → Bool
conflicts i j place =
    uses_place i place && uses_place j place
    && (int_lt (use_at i place).start (use_at j place).«end» && int_lt (use_at j place).start (use_at i place).«end»)

-- no two members conflict on a block
abbrev pub IsFreeOfConflict : Cut → Type 0
IsFreeOfConflict cut =
    (i j block : ℕ) → i < member_count cut → j < member_count cut → i ≢ j → block < block_count cut
    → conflicts (member cut i) (member cut j) block ≡ false

-- on each connection, the first train's last arrival and the minimum after it end before the second train starts, or
-- as it starts
abbrev pub KeepsConnections : Cut → Type 0
KeepsConnections cut =
    (i j place : ℕ) → i < member_count cut → j < member_count cut → block_count cut ≤ place
    → IsTrue (precedes (member cut i) (member cut j) place)
    → (use_at (member cut i) place).«end» ≤ℤ (use_at (member cut j) place).start
