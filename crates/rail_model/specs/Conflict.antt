-- The timetable of a line, and the conflicts of two runs on one block.
use Rattle.std.specs.Prelude.{◌≤◌, ◌≢◌, ◌<ℤ◌, ℕ, pos, List, [], length, map, slice_index_or, All, AllPairs, ◌≡◌, ◌⊎◌, ◌↔◌, ℤ, ◌<◌, Contains}
use Rattle.rail_model.specs.Types.{Use, Stair, Tables}
use Rattle.rail_model.specs.declared.limits.TheConstants.{RUNS, PATH_HOPS}
use Rattle.rail_model.specs.Blocking.{stair_of}
use Rattle.rail_model.specs.Tables.{path_in}
use Rattle.std.specs.Int.{int_min}
use Rattle.rail_model.specs.Name.{IsBefore}

-- the stairway of each run, in the order of the runs' names
abbrev pub timetable : Tables → List Stair
timetable tables = map (λ run. stair_of (path_in tables run)) tables.runs

-- a placeholder where a stairway hasn't a use
abbrev pub no_use : Use
no_use = record { block = 0; start = pos 0; «end» = pos 0 }

-- a placeholder where a run hasn't a stairway
abbrev pub no_stair : Stair
no_stair = record { run = []; uses = [] }

-- the stairway at a place
abbrev pub stair_at : List Stair → ℕ → Stair
stair_at stairs n = slice_index_or stairs n no_stair

-- a run's stairway: it has no more blocks than a path may have, each once, and each for some time
pub record IsStairway (stair : Stair) : Type 0 where
  pub most : length stair.uses ≤ PATH_HOPS
  pub blocks_differ : AllPairs (λ u v. u.block ≢ v.block) stair.uses
  pub not_empty : All (λ u. u.start <ℤ u.«end») stair.uses

-- the stairways of a timetable: there are no more than there may be runs, and their names differ
pub record IsTimetable (stairs : List Stair) : Type 0 where
  pub most : length stairs ≤ RUNS
  pub names_differ : AllPairs (λ i j. i.run ≢ j.run) stairs
  pub each : All IsStairway stairs

-- two uses of one block overlap; intervals are half-open, so two that touch do not
pub record Overlap (u v : Use) : Type 0 where
  pub block : u.block ≡ v.block
  pub first : u.start <ℤ v.«end»
  pub second : v.start <ℤ u.«end»

-- of two moments with the name of a run each, the earlier, or at one moment the lesser name
abbrev pub ComesBefore : ℤ → List ℕ → ℤ → List ℕ → Type 0
ComesBefore s a t b = (s <ℤ t) ⊎ ((s ≡ t) × IsBefore a b)

-- run i precedes run j on a block by these uses of it
abbrev pub Precedes : Stair → Use → Stair → Use → Type 0
Precedes i u j v = (u.block ≡ v.block) × ComesBefore u.start i.run v.start j.run

-- a conflict: the block, the run that precedes there with the start of its use, the other run, and the time that both block
pub record Conflict : Type 0 where
  pub block : ℕ
  pub first : List ℕ
  pub first_start : ℤ
  pub second : List ℕ
  pub from : ℤ
  pub to : ℤ

-- uses u of run i and v of run j make this conflict
pub record Makes (i : Stair) (u : Use) (j : Stair) (v : Use) (c : Conflict) : Type 0 where
  pub overlap : Overlap u v
  pub precedes : Precedes i u j v
  pub block : c.block ≡ u.block
  pub first : c.first ≡ i.run
  pub first_start : c.first_start ≡ u.start
  pub second : c.second ≡ j.run
  pub from : c.from ≡ v.start
  pub to : c.to ≡ int_min u.«end» v.«end»

-- a run of the timetable has this use
abbrev pub HasUse : List Stair → Stair → Use → Type 0
HasUse stairs i u = Contains stairs i × Contains i.uses u

-- some two runs of the timetable make this conflict, each by a use of its own
abbrev pub IsConflict : List Stair → Conflict → Type 0
IsConflict stairs c =
    (i : Stair) × (u : Use) × (j : Stair) × (v : Use) × HasUse stairs i u × HasUse stairs j v × Makes i u j v c

-- conflicts are listed by block, then by the first run's start and name, then by the second run's
abbrev pub IsListedBefore : Conflict → Conflict → Type 0
IsListedBefore c d =
    (c.block < d.block)
    ⊎ ((c.block ≡ d.block) × (ComesBefore c.first_start c.first d.first_start d.first
    ⊎ ((c.first_start ≡ d.first_start) × (c.first ≡ d.first) × ComesBefore c.from c.second d.from d.second)))

-- the list has all conflicts of the timetable and nothing else, in their order
pub record AreConflicts (stairs : List Stair) (list : List Conflict) : Type 0 where
  pub each : (c : Conflict) → Contains list c ↔ IsConflict stairs c
  pub order : AllPairs IsListedBefore list
