-- What is found by the numbers of the runs, and the conflicts.
use Rattle.std.proofs.Common.{◌≡◌, ℕ, zero, suc, ◌+◌, ◌<◌, ◌≤◌, List, [], ◌∷◌, ◌++◌, length, get_or, map, take, drop, refl, sym, ap, ◌∙◌, subst, arith}
use Rattle.std.specs.List.{All, flat_map, range_with_len, take_while, prefix_len}
use Rattle.std.proofs.lemmas.List.{length-map, map-append, take-map}
use Rattle.std.proofs.lemmas.List.Elements.{All-nil, All-append, All-map, All-take, All-drop}
use Rattle.std.proofs.lemmas.Simd.{map-map}
use Rattle.rail_model.proofs.Lists.{flat_map-range_more}
use Rattle.conflict_finder.specs.declared.ranked.Ranked.{Ranked}
use Rattle.conflict_finder.specs.declared.run_uses.RunUse.{RunUse}
use Rattle.conflict_finder.specs.Found.{as_listed}
use Rattle.conflict_finder.specs.Sweep.{meets, conflict_of, no_run_use, conflicts_at, all_conflicts}
use Rattle.conflict_finder.specs.ByNumber.{met_of, named, HasRuns, met_at, met_upto, all_met}

-- with the names of the runs they are the conflicts
module _ (runs : List Ranked) (run_uses : List RunUse) where
  pieces_named : (ks : List ℕ) → map as_listed (flat_map (conflicts_at runs run_uses) ks) ≡ map (named runs) (flat_map (met_at run_uses) ks)
  pieces_named [] = refl
  pieces_named (k ∷ ks) =
      let one = get_or run_uses k no_run_use in
      let met = take_while (meets one) (drop (k + 1) run_uses) in
      let rest = flat_map (conflicts_at runs run_uses) ks in
      map-append as_listed (conflicts_at runs run_uses k) rest
      ∙ ap (λ v. v ++ map as_listed rest) (map-map as_listed (conflict_of runs one) met ∙ sym (map-map (named runs) (met_of one) met))
      ∙ ap (λ v. map (named runs) (met_at run_uses k) ++ v) (pieces_named ks)
      ∙ sym (map-append (named runs) (met_at run_uses k) (flat_map (met_at run_uses) ks))

  all_named : map as_listed (all_conflicts runs run_uses) ≡ map (named runs) (all_met run_uses)
  all_named = pieces_named (range_with_len 0 (length run_uses))

  pub first_named : (n : ℕ) → map (named runs) (take n (all_met run_uses)) ≡ map as_listed (take n (all_conflicts runs run_uses))
  first_named n = sym (take-map (named runs) n (all_met run_uses)) ∙ ap (take n) (sym all_named) ∙ take-map as_listed n (all_conflicts runs run_uses)

  pub count_named : length (all_conflicts runs run_uses) ≡ length (all_met run_uses)
  count_named = sym (length-map (all_conflicts runs run_uses) as_listed) ∙ ap length all_named ∙ length-map (all_met run_uses) (named runs)

-- the numbers are those of runs
module _ (n : ℕ) (run_uses : List RunUse) (h : All (λ b. b.run < n) run_uses) where
  there_upto : (m : ℕ) → m ≤ length run_uses → All (HasRuns n) (met_upto run_uses m)
  there_upto zero l = All-nil (HasRuns n)
  there_upto (suc m) l =
      let one = get_or run_uses m no_run_use in
      let rest = drop (m + 1) run_uses in
      let e : m + 1 ≡ suc m = omega arith in
      let later : All (λ b. b.run < n) (take_while (meets one) rest) = All-take (λ b. b.run < n) (prefix_len (meets one) rest) rest (All-drop (λ b. b.run < n) (m + 1) run_uses h) in
      let here : All (HasRuns n) (met_at run_uses m) = All-map (HasRuns n) (met_of one) (take_while (meets one) rest) (λ k d lt. (h m no_run_use (omega arith), later k d lt)) in
      subst (λ k. All (HasRuns n) (met_upto run_uses k)) e
      (rw (flat_map-range_more (met_at run_uses) m) (All-append (HasRuns n) (met_upto run_uses m) (met_at run_uses m) (there_upto m (omega arith)) here))

  pub all_there : All (HasRuns n) (all_met run_uses)
  all_there = there_upto (length run_uses) (omega arith)
