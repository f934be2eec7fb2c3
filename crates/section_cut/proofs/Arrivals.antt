-- The last arrival of a run: its start, and its running and dwell times.
use Rattle.std.proofs.Common.{◌≡◌, ℕ, ◌+◌, ◌<◌, ◌≤◌, not, eqb, List, [], ◌∷◌, map, length, refl, sym, ap, ◌∙◌, arith}
use Rattle.std.specs.List.{zip, sum_by}
use Rattle.std.proofs.lemmas.Bool.{eqb-true, not-true, not-false}
use Rattle.std.proofs.lemmas.List.{take_all}
use Rattle.std.proofs.lemmas.List.Sums.{sum_by-cons}
use Rattle.rail_model.specs.declared.items.Leg.{Leg}
use Rattle.rail_model.specs.declared.tables.Tables.{Tables}
use Rattle.rail_model.specs.declared.path.Hop.{Hop}
use Rattle.rail_model.specs.Blocking.{hop_count, departure}
use Rattle.rail_model.specs.Tables.{signal_named, route_named, run_at, hop_beyond, path_in, last_arrival}
use Rattle.rail_model.specs.Rules.{IsSound}
use Rattle.rail_model.proofs.Paths.{run_stands, path_at_fits}
use Rattle.blocking_time.proofs.Places.{departure_most}
use Rattle.blocking_time.proofs.Clearing.{arrival_is}

-- a leg's time
abbrev pub leg_time : Leg → ℕ
leg_time leg = leg.running_s + leg.dwell_s

-- the times of a path's hops are those of its legs
hops_time : (tables : Tables) (names : List (List ℕ)) (legs : List Leg) → length legs ≡ length names
    → sum_by (λ (h : Hop). h.running_s + h.dwell_s) (map (λ p. hop_beyond tables (signal_named tables p.0) p.1) (zip names legs))
    ≡ sum_by leg_time legs
hops_time tables [] [] e = refl
hops_time tables [] (leg ∷ legs) e = absurd (omega (arith, e))
hops_time tables (n ∷ names) [] e = absurd (omega (arith, e))
hops_time tables (n ∷ names) (leg ∷ legs) e =
    let hop : List ℕ × Leg → Hop = λ p. hop_beyond tables (signal_named tables p.0) p.1 in
    let rest = hops_time tables names legs (omega (arith, e)) in
    sum_by-cons (λ (h : Hop). h.running_s + h.dwell_s) (hop (n, leg)) (map hop (zip names legs))
    ∙ ap (λ s. leg.running_s + leg.dwell_s + s) rest ∙ sym (sum_by-cons leg_time leg legs)

module _ (tables : Tables) (sound : IsSound tables) (n : ℕ) (l : n < length tables.runs) where
  -- a run arrives as it would depart, having no dwell at its end
  pub last_departure : last_arrival tables (run_at tables n)
      ≡ departure (path_in tables (run_at tables n)) (hop_count (path_in tables (run_at tables n)))
  last_departure =
      let path = path_in tables (run_at tables n) in
      let fits = path_at_fits tables sound n l in
      arrival_is path (hop_count path) fits.some (omega arith) fits.last_dwell

  pub last_arrival_is : last_arrival tables (run_at tables n) ≡ (run_at tables n).start_s + sum_by leg_time (run_at tables n).legs
  last_arrival_is =
      let run = run_at tables n in
      let path = path_in tables run in
      let names = (route_named tables run.route).signals in
      let count : length run.legs ≡ length names =
      eqb-true (length run.legs) (length names) (not-false (eqb (length run.legs) (length names)) (not-true (not (eqb (length run.legs) (length names))) (run_stands tables sound n l).count)) in
      last_departure
      ∙ ap (λ hops. run.start_s + sum_by (λ (h : Hop). h.running_s + h.dwell_s) hops) (take_all (hop_count path) path.hops (omega arith))
      ∙ ap (λ s. run.start_s + s) (hops_time tables names run.legs count)

  pub last_arrival_most : last_arrival tables (run_at tables n) ≤ 44841600
  last_arrival_most =
      let path = path_in tables (run_at tables n) in
      omega (arith, last_departure, departure_most path (path_at_fits tables sound n l) (hop_count path) (omega arith))
