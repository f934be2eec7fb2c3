-- A run's uses of a section depend on the run, its route, and the route's signals and blocks alone.
use Rattle.std.proofs.Common.{◌≡◌, ℕ, true, List, [], map, ltb, length, get_or, sym, ap, ◌∙◌, subst, arith}
use Rattle.std.specs.Prelude.{All, filter}
use Rattle.std.specs.List.{zip}
use Rattle.std.proofs.lemmas.List.{get_or_default}
use Rattle.std.proofs.lemmas.Simd.{map-map}
use Rattle.std.proofs.lemmas.Slice.Zip.{length-zip, get_or-zip}
use Rattle.rail_model.specs.declared.items.Block.{Block}
use Rattle.rail_model.specs.declared.items.Leg.{Leg}
use Rattle.rail_model.specs.declared.items.Run.{Run}
use Rattle.rail_model.specs.declared.items.Section.{Section}
use Rattle.rail_model.specs.declared.tables.Tables.{Tables}
use Rattle.rail_model.specs.declared.path.Hop.{Hop}
use Rattle.rail_model.specs.declared.path.Path.{Path}
use Rattle.rail_model.specs.declared.stair.Use.{Use}
use Rattle.rail_model.specs.Rules.{has_block, IsSound}
use Rattle.rail_model.specs.Blocking.{stairway}
use Rattle.rail_model.specs.Tables.{no_run, run_at, number_of, block_named, signal_named, route_named, hop_beyond, path_in}
use Rattle.rail_model.specs.Within.{no_leg}
use Rattle.rail_model.proofs.Lists.{map_same}
use Rattle.plan_model.specs.Cut.{position_in_section, section_uses, cut_of}
use Rattle.section_cut.proofs.Numberless.{renumbered_hop, renumbered, uses_renumbered}
use Rattle.section_cut.proofs.PassedBy.{named}
use Rattle.section_cut.proofs.SameRuns.{cuts_same}

-- a signal, its block's name, and the block's length stand as they stood
pub record IsSameBeyond (earlier later : Tables) (name : List ℕ) : Type 0 where
  pub signal : signal_named later name ≡ signal_named earlier name
  pub there : has_block earlier (signal_named earlier name).block ≡ true
  pub still : has_block later (signal_named earlier name).block ≡ true
  pub block : block_named later (signal_named earlier name).block ≡ block_named earlier (signal_named earlier name).block

-- so do a run's route and all signals of it
pub record IsSameWay (earlier later : Tables) (run : Run) : Type 0 where
  pub route : route_named later run.route ≡ route_named earlier run.route
  pub signals : All (IsSameBeyond earlier later) (route_named earlier run.route).signals

module _ (earlier later : Tables) (s : Section) where
  -- a hop over the block beyond a signal, by the block's position in the section
  abbrev hop_placed : Tables → List ℕ × Leg → Hop
  hop_placed tables p = renumbered_hop (position_in_section tables s) (hop_beyond tables (signal_named tables p.0) p.1)

  hop_still : (p : List ℕ × Leg) → IsSameBeyond earlier later p.0 → hop_placed later p ≡ hop_placed earlier p
  hop_still p same =
      let b = (signal_named earlier p.0).block in
      let hop : List ℕ → Block → Hop = λ n block. record (hop_beyond earlier (signal_named earlier p.0) p.1) { block = number_of (λ m. m) s.blocks n; block_m = block.length_m } in
      rw (same.signal) (ap (λ n. hop n (block_named later b)) (named later b same.still) ∙ ap (hop b) same.block
      ∙ ap (λ n. hop n (block_named earlier b)) (sym (named earlier b same.there)))

  path_still : (run : Run) → IsSameWay earlier later run
      → renumbered (position_in_section later s) (path_in later run) ≡ renumbered (position_in_section earlier s) (path_in earlier run)
  path_still run same =
      let names = (route_named earlier run.route).signals in
      let path : List Hop → Path = λ hops. record { run = run.name; length_m = run.length_m; tail_s = run.tail_s; start_s = run.start_s; hops = hops } in
      let beyond : (tables : Tables) → List ℕ × Leg → Hop = λ tables p. hop_beyond tables (signal_named tables p.0) p.1 in
      ap path
      (ap (λ r. map (renumbered_hop (position_in_section later s)) (map (beyond later) (zip r.signals run.legs))) same.route
      ∙ map-map (renumbered_hop (position_in_section later s)) (beyond later) (zip names run.legs)
      ∙ map_same (hop_placed later) (hop_placed earlier) (zip names run.legs)
      (λ k d l.
      let long = length-zip names run.legs in
      hop_still (get_or (zip names run.legs) k d)
      (subst (λ (p : List ℕ × Leg). IsSameBeyond earlier later p.0)
      (sym (get_or_default (zip names run.legs) k d ([], no_leg) l ∙ get_or-zip names run.legs k ([], no_leg) (omega (arith, long)) (omega (arith, long))))
      (same.signals k [] (omega (arith, long)))))
      ∙ sym (map-map (renumbered_hop (position_in_section earlier s)) (beyond earlier) (zip names run.legs)))

  -- the run's uses of the section are the same
  pub uses_still : (run : Run) → IsSameWay earlier later run → section_uses later s run ≡ section_uses earlier s run
  uses_still run same =
      ap (filter (λ (u : Use). ltb u.block (length s.blocks)))
      (uses_renumbered (position_in_section later s) (path_in later run)
      ∙ ap stairway (path_still run same)
      ∙ sym (uses_renumbered (position_in_section earlier s) (path_in earlier run)))

-- the tables have the same runs, sections and connections, and each run's way is the same
pub record IsSameLine (earlier later : Tables) : Type 0 where
  pub runs : later.runs ≡ earlier.runs
  pub sections : later.sections ≡ earlier.sections
  pub connections : later.connections ≡ earlier.connections
  pub ways : All (IsSameWay earlier later) earlier.runs

-- no cut changes
pub cuts_still : (earlier later : Tables) → IsSameLine earlier later → IsSound earlier → IsSound later → (name : List ℕ) → cut_of later name ≡ cut_of earlier name
cuts_still earlier later same earlier_sound later_sound name =
    cuts_same earlier later earlier_sound later_sound same.runs same.connections same.sections
    (λ s n l. uses_still earlier later s (run_at earlier n) (same.ways n no_run l)) name
