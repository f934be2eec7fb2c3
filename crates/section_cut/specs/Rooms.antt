-- Empty lists into which stairways are put.
use Rattle.std.specs.Prelude.{◌≡◌, ◌<◌, ℕ, List, [], All, map}
use Rattle.std.specs.List.{range_with_len}
use Rattle.section_cut.specs.declared.all_stairways.StairRoom.{StairRoom}

-- an empty room for one of so many runs
pub record IsRoomFor (runs : ℕ) (room : StairRoom) : Type 0 where
  pub there : room.run < runs
  pub empty : room.uses.items ≡ []

-- an empty room for each of so many runs, in their order
pub record AreRoomsFor (runs : ℕ) (rooms : List StairRoom) : Type 0 where
  pub numbers : map (λ r. r.run) rooms ≡ range_with_len 0 runs
  pub each : All (IsRoomFor runs) rooms
