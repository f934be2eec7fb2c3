use Rattle.std.proofs.Common.{◌≡◌, ◌+◌, ◌*◌, ◌^◌, ◌<◌, ◌≤◌, List, length, map, take, ap, ◌∙◌, subst, arith}
use Rattle.std.specs.Prelude.{Result, Ok, Err, IfOk}
use Rattle.std.specs.List.{All, flat_map, sum_by}
use Rattle.std.specs.List.Sorted.{IsPermutation, IsSortedByKey}
use Rattle.std.specs.Cmp.Lexicographic.{slice_cmp}
use Rattle.std.specs.Ordering.{nat_cmp}
use Rattle.std.proofs.lemmas.List.{length-map, length-take}
use Rattle.std.proofs.lemmas.List.Elements.{All-take}
use Rattle.std.proofs.lemmas.List.Sorted.{IsPermutation-trans}
use Rattle.rail_model.specs.declared.stair.Stair.{Stair}
use Rattle.rail_model.specs.declared.limits.TheConstants.{RUNS, PATH_HOPS}
use Rattle.rail_model.specs.declared.memory.OutOfMemory.{OutOfMemory}
use Rattle.rail_model.specs.Conflict.{IsTimetable}
use Rattle.conflict_finder.specs.declared.found.Conflicts.{Conflicts}
use Rattle.conflict_finder.specs.declared.found.MetInPart.{MetInPart}
use Rattle.conflict_finder.specs.declared.found.TheConstants.{LISTED}
use Rattle.conflict_finder.specs.declared.ranked.Ranked.{Ranked}
use Rattle.conflict_finder.specs.declared.run_starts.RunStart.{RunStart}
use Rattle.conflict_finder.specs.declared.run_uses.RunUse.{RunUse}
use Rattle.conflict_finder.specs.Found.{IsFound, as_listed}
use Rattle.conflict_finder.specs.Runs.{runs_of, all_run_uses, run_uses_in_turn}
use Rattle.conflict_finder.specs.Sweep.{all_conflicts}
use Rattle.conflict_finder.specs.ByNumber.{named, HasRuns, all_met, count_of, AreFoundInParts}
use Rattle.conflict_finder.proofs.Ranks.{AreRanked, ranked_by}
use Rattle.conflict_finder.proofs.Order.{swept, few, runs_there}
use Rattle.conflict_finder.proofs.Whole.{all_found}
use Rattle.conflict_finder.proofs.ByNumber.{first_named, count_named, all_there}
use Rattle.conflict_finder.proofs.InParts.{swept_uses, same_uses, uses_in_order, found_most, counted_in_all, listed_in_all}
use Rattle.conflict_finder.proofs.sweep.conflicts.Goals as goal

-- what is known of the runs and of their uses
record IsReady (stairs : List Stair) (runs : List Ranked) (starts : List RunStart) : Type 0 where
  ranked : AreRanked stairs runs
  same : IsPermutation (all_run_uses stairs runs) (run_uses_in_turn stairs starts)

ranked_in : (stairs seen : List Stair) (runs : List Ranked) → IsTimetable stairs → seen ≡ stairs → IsPermutation (runs_of seen) runs → IsSortedByKey (λ r. r.name) (slice_cmp nat_cmp) runs → AreRanked stairs runs
ranked_in stairs seen runs t here same order =
    ranked_by stairs runs t (subst (λ s. IsPermutation (runs_of s) runs) here same) order

ready : (stairs first second : List Stair) (runs read : List Ranked) (starts : List RunStart) → IsTimetable stairs → first ≡ stairs → second ≡ stairs → read ≡ runs
    → IsPermutation (runs_of first) runs → IsSortedByKey (λ r. r.name) (slice_cmp nat_cmp) runs → IsPermutation (all_run_uses second read) (run_uses_in_turn second starts) → IsReady stairs runs starts
ready stairs first second runs read starts t at_first at_second at_runs same order laid =
    record { ranked = ranked_in stairs first runs t at_first same order; same = rw (at_second, at_runs) at laid }

module _ (stairs : List Stair) (runs : List Ranked) (starts : List RunStart) (t : IsTimetable stairs) (w : IsReady stairs runs starts) (found : List MetInPart) (h : AreFoundInParts (run_uses_in_turn stairs starts) found) where
  uses : List RunUse
  uses = swept_uses (run_uses_in_turn stairs starts) found h

  same : IsPermutation (all_run_uses stairs runs) uses
  unfolding uses
  same = IsPermutation-trans (all_run_uses stairs runs) (run_uses_in_turn stairs starts) uses w.same (same_uses (run_uses_in_turn stairs starts) found h)

  most : length uses ≤ RUNS * PATH_HOPS
  most = few stairs runs t w.ranked uses same

  count : sum_by count_of found < 2 ^ 64
  unfolding uses
  count = omega (arith, counted_in_all (run_uses_in_turn stairs starts) found h, found_most uses most, most)

  there : All (HasRuns (length runs)) (take LISTED (flat_map (λ (f : MetInPart). f.list.items) found))
  unfolding uses
  there = rw (listed_in_all (run_uses_in_turn stairs starts) found h) (All-take (HasRuns (length runs)) LISTED (all_met uses) (all_there (length runs) uses (runs_there stairs runs t w.ranked uses same)))

  -- what is joined are the conflicts
  found_by : (r : Result Conflicts OutOfMemory) → IfOk r (λ f. f.list ≡ map (named runs) (take LISTED (flat_map (λ part. part.list.items) found))) → IfOk r (λ f. length f.list + f.more ≡ sum_by count_of found) → IfOk r (IsFound stairs)
  unfolding uses
  found_by (Ok f) l m =
      let order = swept stairs runs t w.ranked uses same (uses_in_order (run_uses_in_turn stairs starts) found h) in
      let all = all_conflicts runs uses in
      let list : f.list ≡ map as_listed (take LISTED all) = l ∙ ap (map (named runs)) (listed_in_all (run_uses_in_turn stairs starts) found h) ∙ first_named runs uses LISTED in
      record {
        all = all;
        are = all_found stairs runs t w.ranked uses same order;
        list = list;
        more = omega (arith, m, counted_in_all (run_uses_in_turn stairs starts) found h, count_named runs uses, ap length list, length-map (take LISTED all) as_listed, length-take LISTED all);
      }
  found_by (Err e) l m = tt

pub by_start-requires-clause-few : goal.by_start-requires-clause-few
by_start-requires-clause-few g c =
    let ranked = ranked_in c.args.stairs.now c.slice.result.now c.in_ok-runs.runs.items c.requires c.slice.ensures c.in_ok-runs.ensures.same c.in_ok-runs.ensures.order in
    omega (arith, ranked.count, ap length c.deref.ensures.value, c.requires.most)

pub by_start-requires-clause-there : goal.by_start-requires-clause-there
by_start-requires-clause-there g c κs inside =
    let ranked = ranked_in c.args.stairs.now c.slice.result.now c.in_ok-runs.runs.items c.requires c.slice.ensures c.in_ok-runs.ensures.same c.in_ok-runs.ensures.order in
    rw (c.slice-2.ensures, c.deref.ensures.value) (ranked.there κs inside)

pub found_in_parts-requires-clause-most : goal.found_in_parts-requires-clause-most
found_in_parts-requires-clause-most g c κs inside =
    let stairs = c.args.stairs.now in
    let runs = c.in_ok-runs.runs.items in
    let starts = c.in_ok-starts.starts.items in
    let w = ready stairs c.slice.result.now c.slice-2.result.now runs c.deref.result.now starts c.requires c.slice.ensures c.slice-2.ensures c.deref.ensures.value c.in_ok-runs.ensures.same c.in_ok-runs.ensures.order c.in_ok-starts.ensures.same in
    rw (c.slice-3.ensures, c.deref-2.ensures.value) (few stairs runs c.requires w.ranked (run_uses_in_turn stairs starts) w.same)

pub found_in_parts-requires-clause-there : goal.found_in_parts-requires-clause-there
found_in_parts-requires-clause-there g c κs inside =
    rw (c.slice-3.ensures, c.deref-2.ensures.value) (rw (c.slice-2.ensures) at c.in_ok-starts.ensures.there)

pub joined-requires-clause-count : goal.joined-requires-clause-count
joined-requires-clause-count g c =
    let stairs = c.args.stairs.now in
    let runs = c.in_ok-runs.runs.items in
    let starts = c.in_ok-starts.starts.items in
    let w = ready stairs c.slice.result.now c.slice-2.result.now runs c.deref.result.now starts c.requires c.slice.ensures c.slice-2.ensures c.deref.ensures.value c.in_ok-runs.ensures.same c.in_ok-runs.ensures.order c.in_ok-starts.ensures.same in
    rw (c.deref-4.ensures.value) (count stairs runs starts c.requires w c.in_ok-found.found.items (rw (c.slice-3.ensures, c.deref-2.ensures.value) at c.in_ok-found.ensures))

pub joined-requires-clause-there : goal.joined-requires-clause-there
joined-requires-clause-there g c κs inside =
    let stairs = c.args.stairs.now in
    let runs = c.in_ok-runs.runs.items in
    let starts = c.in_ok-starts.starts.items in
    let w = ready stairs c.slice.result.now c.slice-2.result.now runs c.deref.result.now starts c.requires c.slice.ensures c.slice-2.ensures c.deref.ensures.value c.in_ok-runs.ensures.same c.in_ok-runs.ensures.order c.in_ok-starts.ensures.same in
    rw (c.deref-3.ensures.value, c.deref-4.ensures.value) (there stairs runs starts c.requires w c.in_ok-found.found.items (rw (c.slice-3.ensures, c.deref-2.ensures.value) at c.in_ok-found.ensures) κs inside)

pub returns : goal.returns
returns g c =
    let stairs = c.args.stairs.now in
    let runs = c.in_ok-runs.runs.items in
    let starts = c.in_ok-starts.starts.items in
    let w = ready stairs c.slice.result.now c.slice-2.result.now runs c.deref.result.now starts c.requires c.slice.ensures c.slice-2.ensures c.deref.ensures.value c.in_ok-runs.ensures.same c.in_ok-runs.ensures.order c.in_ok-starts.ensures.same in
    found_by stairs runs starts c.requires w c.in_ok-found.found.items (rw (c.slice-3.ensures, c.deref-2.ensures.value) at c.in_ok-found.ensures) c.joined.result
    (rw (c.deref-3.ensures.value, c.deref-4.ensures.value) at c.joined.ensures.list) (rw (c.deref-4.ensures.value) at c.joined.ensures.count)
