-- What is found, by the numbers of the runs in the order of their names.
use Rattle.std.specs.Prelude.{◌≡◌, ℕ, ◌+◌, ◌-◌, ◌*◌, ◌<◌, min, List, Vec, length, map, take, drop, slice_index_or}
use Rattle.std.specs.Int.{int_min}
use Rattle.std.specs.List.{AllZip, flat_map, range_with_len, take_while}
use Rattle.std.specs.declared.alloc.Global.{Global}
use Rattle.conflict_finder.specs.Types.{Conflict, Met, MetInPart, Ranked, RunUse}
use Rattle.conflict_finder.specs.declared.found.TheConstants.{LISTED}
use Rattle.conflict_finder.specs.Runs.{no_ranked}
use Rattle.conflict_finder.specs.ByBlock.{AreSorted, AreUsesFrom}
use Rattle.conflict_finder.specs.Sweep.{meets, no_run_use}

-- what two uses make
abbrev pub met_of : RunUse → RunUse → Met
met_of one other = record {
  block = one.block;
  first = one.run;
  second = other.run;
  from = other.start;
  to = int_min one.«end» other.«end»;
}

-- the same with the names of the runs
abbrev pub named : List Ranked → Met → Conflict
named runs m = record {
  block = m.block;
  first = (slice_index_or runs m.first no_ranked).name;
  second = (slice_index_or runs m.second no_ranked).name;
  from = m.from;
  to = m.to;
}

-- both are numbers of so many runs
abbrev pub HasRuns : ℕ → Met → Type 0
HasRuns n m = (m.first < n) × (m.second < n)

-- what the use at i makes with those that follow it, up to the first that it doesn't meet
abbrev pub met_at : List RunUse → ℕ → List Met
met_at run_uses i =
    map (met_of (slice_index_or run_uses i no_run_use))
    (take_while (meets (slice_index_or run_uses i no_run_use)) (drop (i + 1) run_uses))

-- what is found by the first n
abbrev pub met_upto : List RunUse → ℕ → List Met
met_upto run_uses n = flat_map (met_at run_uses) (range_with_len 0 n)

-- what the whole sweep finds
abbrev pub all_met : List RunUse → List Met
all_met run_uses = met_upto run_uses (length run_uses)

-- what the sweeps over one list after the other find
abbrev pub met_in_turn : List (Vec RunUse Global) → List Met
met_in_turn by_block = flat_map (λ s. all_met s.items) by_block

-- the first of these are listed, and the rest are counted
abbrev pub IsListed : List Met → MetInPart → Type 0
IsListed all found = (found.list.items ≡ take LISTED all) × (found.more ≡ length all - LISTED)

-- how many were found in a part
abbrev pub count_of : MetInPart → ℕ
count_of found = length found.list.items + found.more

-- of so many lists, the place of the first of a part, where each part has `size` of them
abbrev pub first_of : ℕ → ℕ → ℕ → ℕ
first_of lists size part = min (part * size) lists

-- what is found in a part: its lists hold the uses that go there, in order, and are swept
pub record IsFoundInPart (lists size : ℕ) (run_uses : List RunUse) (part : ℕ) (found : MetInPart) : Type 0 where
  pub by_block : List (Vec RunUse Global)
  pub count : first_of lists size part + length by_block ≡ first_of lists size (part + 1)
  pub uses : AreUsesFrom (lists - 1) (first_of lists size part) run_uses by_block
  pub sorted : AreSorted by_block
  pub listed : IsListed (met_in_turn by_block) found

-- what is found in parts, by lists with the places from `first` on and before `end`, where the last of all lists has
-- the place `last`
pub record AreFoundBetween (last first «end» : ℕ) (run_uses : List RunUse) (found : List MetInPart) : Type 0 where
  pub parts : List (List (Vec RunUse Global))
  pub count : first + length (flat_map (λ part. part) parts) ≡ «end»
  pub uses : AreUsesFrom last first run_uses (flat_map (λ part. part) parts)
  pub sorted : AreSorted (flat_map (λ part. part) parts)
  pub listed : AllZip (λ part. IsListed (met_in_turn part)) parts found

-- what is found in all parts
abbrev pub AreFoundInParts : List RunUse → List MetInPart → Type 0
AreFoundInParts run_uses found = (last : ℕ) × AreFoundBetween last 0 (last + 1) run_uses found
