-- How long before its start a run of sound tables may begin to keep a block.
use Rattle.std.proofs.Common.{◌≡◌, ℕ, ◌+◌, ◌-◌, ◌<◌, ◌≤◌, Bool, true, false, cond, leb, max, length, All, refl, sym, subst, arith}
use Rattle.std.specs.Prelude.{pos, ◌-ℤ◌, ◌≤ℤ◌}
use Rattle.std.proofs.lemmas.Int.{ints}
use Rattle.rail_model.specs.declared.tables.Tables.{Tables}
use Rattle.rail_model.specs.declared.path.Hop.{Hop}
use Rattle.rail_model.specs.declared.path.Path.{Path}
use Rattle.rail_model.specs.Blocking.{hop, hop_count, no_hop, place, departure, reach_down, blocks_before, approach_moment, blocking_start}
use Rattle.rail_model.specs.Tables.{run_at, path_in}
use Rattle.blocking_time.specs.Mark.{stop_mark}
use Rattle.blocking_time.proofs.Stops.{approach_is}
use Rattle.line_tables.specs.Paths.{no_path, paths_of}
use Rattle.line_tables.proofs.PathsOf.{paths_count, path_of_run}
use Rattle.section_cut.specs.Late.{IsLead}

module _ (path : Path) where
  -- no approach moment is before the start
  from_start : (b : Bool) (s d q m r : ℕ) → s ≤ d → r ≡ d + q → s ≤ cond b (max r m) r
  from_start true s d q m r low is = omega arith
  from_start false s d q m r low is = omega arith

  pub approach_from_start : (k : ℕ) → k ≤ hop_count path → path.start_s ≤ approach_moment path k
  approach_from_start k on =
      let y = place path (k - 1) - (hop path k).approach_m in
      let stop = stop_mark path (k - 1) in
      subst (λ t. path.start_s ≤ t) (sym (approach_is path k on))
      (from_start (leb y stop.place_m) path.start_s (departure path (blocks_before path y)) _ stop.departure_s (reach_down path y) (omega arith) refl)

  blocked : (to lead s a w f : ℕ) → to + lead ≤ s → s ≤ a → w + f ≤ lead → pos to ≤ℤ (pos a -ℤ pos w -ℤ pos f)
  blocked to lead s a w f late from most = omega (arith, ints)

  -- a path that starts the lead after a moment keeps no block before this moment
  pub blocking_from : (k to lead : ℕ) → k ≤ hop_count path → to + lead ≤ path.start_s → (hop path k).watch_s + (hop path k).form_s ≤ lead
      → pos to ≤ℤ blocking_start path k
  blocking_from k to lead on late most =
      blocked to lead path.start_s (approach_moment path k) (hop path k).watch_s (hop path k).form_s late (approach_from_start k on) most

-- the lead of the paths is one for the path of each run
pub path_lead : (tables : Tables) (lead : ℕ) → IsLead (paths_of tables) lead → (n k : ℕ) → n < length tables.runs → 1 ≤ k
    → k ≤ hop_count (path_in tables (run_at tables n))
    → (hop (path_in tables (run_at tables n)) k).watch_s + (hop (path_in tables (run_at tables n)) k).form_s ≤ lead
path_lead tables lead is n k l some on =
    let here = path_of_run tables (paths_of tables) refl n l in
    let all = is n no_path (omega (arith, l, paths_count tables (paths_of tables) refl)) in
    subst (λ (p : Path). All (λ (h : Hop). h.watch_s + h.form_s ≤ lead) p.hops) here all (k - 1) no_hop (omega arith)
