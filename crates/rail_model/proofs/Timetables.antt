-- The stairways of tables: how many there are, which is a run's, and the blocks that they use.
use Rattle.std.proofs.Common.{◌≡◌, ℕ, ◌+◌, ◌-◌, ◌<◌, [], ◌∷◌, ◌++◌, length, take, get_or, sym, ap, ◌∙◌, subst, arith}
use Rattle.std.specs.List.{All}
use Rattle.std.proofs.lemmas.List.{take_more, length-map, get_or-map}
use Rattle.std.proofs.lemmas.List.Elements.{All-contains}
use Rattle.rail_model.specs.declared.stair.Use.{Use}
use Rattle.rail_model.specs.declared.stair.Stair.{Stair}
use Rattle.rail_model.specs.declared.tables.Tables.{Tables}
use Rattle.rail_model.specs.Blocking.{hop_count, no_hop, use_of, stairway, stair_of}
use Rattle.rail_model.specs.Conflict.{Conflict, HasUse, IsConflict, timetable}
use Rattle.rail_model.specs.Tables.{no_run, run_at, path_in}
use Rattle.rail_model.specs.Rules.{IsSound}
use Rattle.rail_model.proofs.Lists.{All-from_one}
use Rattle.rail_model.proofs.Paths.{path_at_numbered}

module _ (tables : Tables) where
  pub stair_at : (n : ℕ) (d : Stair) → n < length tables.runs
      → get_or (timetable tables) n d ≡ stair_of (path_in tables (run_at tables n))
  stair_at n d l = get_or-map (λ run. stair_of (path_in tables run)) tables.runs n no_run d l

  pub stairs_count : length (timetable tables) ≡ length tables.runs
  stairs_count = length-map tables.runs (λ run. stair_of (path_in tables run))

  -- one stairway more
  pub timetable_more : (n : ℕ) → n < length tables.runs
      → take (n + 1) (timetable tables) ≡ take n (timetable tables) ++ stair_of (path_in tables (run_at tables n)) ∷ []
  timetable_more n l =
      let d = stair_of (path_in tables (run_at tables n)) in
      take_more (timetable tables) n d (omega (arith, stairs_count))
      ∙ ap (λ s. take n (timetable tables) ++ s ∷ []) (stair_at n d l)

module _ (tables : Tables) (sound : IsSound tables) where
  -- the blocks of a run's uses are those of the tables
  pub used_there : (n : ℕ) → n < length tables.runs
      → All (λ (u : Use). u.block < length tables.blocks) (stairway (path_in tables (run_at tables n)))
  used_there n l =
      let path = path_in tables (run_at tables n) in
      let numbered = path_at_numbered tables sound n l in
      All-from_one (λ (u : Use). u.block < length tables.blocks) (use_of path) (hop_count path)
      (λ k low high. numbered (k - 1) no_hop (omega arith))

  pub use_there : (i : Stair) (u : Use) → HasUse (timetable tables) i u
      → u.block < length tables.blocks
  use_there i u h =
      let n = h.0.0 in
      let here : n < length tables.runs = omega (arith, h.0.1, stairs_count tables) in
      let is : stair_of (path_in tables (run_at tables n)) ≡ i = sym (stair_at tables n i here) ∙ h.0.2 in
      All-contains (λ (v : Use). v.block < length tables.blocks) i.uses u
      (subst (λ (s : Stair). All (λ (v : Use). v.block < length tables.blocks) s.uses) is (used_there n here)) h.1

  -- the block of a conflict is one of the tables
  pub conflict_there : (c : Conflict) → IsConflict (timetable tables) c
      → c.block < length tables.blocks
  conflict_there c h = subst (λ b. b < length tables.blocks) (sym h.6.block) (use_there h.0 h.1 h.4)
