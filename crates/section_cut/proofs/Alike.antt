-- Two paths of one run over blocks of the same lengths, in the same times: they differ in the numbers of the blocks and in
-- what signals add.
use Rattle.std.proofs.Common.{◌≡◌, ℕ, zero, suc, ◌+◌, ◌-◌, ◌*◌, ◌/◌, max, ltb, leb, cond, ◌&&◌, List, length, map, get_or, take, refl, sym, ap, ◌∙◌, pos, ◌+ℤ◌, ◌-ℤ◌}
use Rattle.std.specs.Prelude.{fold, filter}
use Rattle.std.specs.Int.{div_ceil}
use Rattle.std.specs.List.{range_with_len, sum_by, count_by}
use Rattle.std.proofs.lemmas.List.{length-map, take-map}
use Rattle.std.proofs.lemmas.List.Folds.{fold-map}
use Rattle.std.proofs.Math.ListN.{get_or-map}
use Rattle.rail_model.specs.declared.path.Hop.{Hop}
use Rattle.rail_model.specs.declared.path.Path.{Path}
use Rattle.rail_model.specs.Blocking.{no_hop, hop, hop_count, place, departure, arrival, blocks_before, reach, reach_down, approach_point, stops_from, approach_moment, clearing_place, clearing_moment, use_of}

-- a hop by its block's length and the run's times alone
abbrev pub bare : Hop → Hop
bare h = record h { block = 0; approach_m = 0; watch_s = 0; form_s = 0; overlap_m = 0; release_s = 0 }

-- ---- two paths of one run that differ only in the other numbers of their hops

module _ (path : Path) (others : List Hop) (alike : map bare path.hops ≡ map bare others) where
  -- the other path
  abbrev other : Path
  other = record path { hops = others }

  -- sums of numbers that bare hops keep
  sums : (n : Hop → ℕ) (k : ℕ) → sum_by (λ h. n (bare h)) (take k path.hops) ≡ sum_by (λ h. n (bare h)) (take k others)
  sums n k =
      let bared : (hops : List Hop) → sum_by n (take k (map bare hops)) ≡ sum_by (λ h. n (bare h)) (take k hops) =
      λ hops. ap (sum_by n) (take-map bare k hops) ∙ fold-map (λ a h. a + n h) bare 0 (take k hops) in
      sym (bared path.hops) ∙ ap (λ hops. sum_by n (take k hops)) alike ∙ bared others

  -- what the definitions of blocking times read of such hops is the same by both
  hops_alike : (k : ℕ) → bare (hop path k) ≡ bare (hop other k)
  hops_alike k = sym (get_or-map bare path.hops (k - 1) no_hop) ∙ ap (λ hops. get_or hops (k - 1) no_hop) alike ∙ get_or-map bare others (k - 1) no_hop

  pub count_same : hop_count path ≡ hop_count other
  count_same = sym (length-map path.hops bare) ∙ ap length alike ∙ length-map others bare

  place_same : (k : ℕ) → place path k ≡ place other k
  place_same k = sums (λ h. h.block_m) k

  departure_same : (k : ℕ) → departure path k ≡ departure other k
  departure_same k = ap (λ s. path.start_s + s) (sums (λ h. h.running_s + h.dwell_s) k)

  arrival_same : (k : ℕ) → arrival path k ≡ arrival other k
  arrival_same zero = refl
  arrival_same (suc k) = λ i. departure_same k i + (hops_alike (suc k) i).running_s

  before_same : (x : ℕ) → blocks_before path x ≡ blocks_before other x
  before_same x = λ i. count_by (λ k. ltb (place_same k i) x) (range_with_len 1 (count_same i))

  reach_same : (x : ℕ) → reach path x ≡ reach other x
  reach_same x = λ i.
      let k = before_same x i in
      departure_same k i + div_ceil ((x - place_same k i) * (hops_alike (k + 1) i).running_s) (hops_alike (k + 1) i).block_m

  down_same : (x : ℕ) → reach_down path x ≡ reach_down other x
  down_same x = λ i.
      let k = before_same x i in
      departure_same k i + ((x - place_same k i) * (hops_alike (k + 1) i).running_s) / (hops_alike (k + 1) i).block_m

  -- where the approach to the k-th block is as long, so is the approach moment the same
  module _ (k : ℕ) (length_same : (hop path k).approach_m ≡ (hop other k).approach_m) where
    point_same : approach_point path k ≡ approach_point other k
    point_same = λ i. place_same (k - 1) i - length_same i

    stops_same : stops_from path k (approach_point path k) ≡ stops_from other k (approach_point other k)
    stops_same = λ i. filter (λ m. ltb 0 (hops_alike m i).dwell_s && leb (point_same i) (place_same m i)) (range_with_len 1 (k - 1))

    pub approach_same : approach_moment path k ≡ approach_moment other k
    approach_same = λ i. fold max (down_same (point_same i) i) (map (λ m. departure_same m i) (stops_same i))

  -- and where its overlap is, so is the clearing moment
  module _ (k : ℕ) (length_same : (hop path k).overlap_m ≡ (hop other k).overlap_m) where
    clear_same : clearing_place path k ≡ clearing_place other k
    clear_same = λ i. place_same k i + length_same i + path.length_m

    pub clearing_same : clearing_moment path k ≡ clearing_moment other k
    clearing_same = λ i.
        cond (leb (clear_same i) (place_same (count_same i) i)) (reach_same (clear_same i) i) (arrival_same (count_same i) i + path.tail_s)

  -- where all numbers of the k-th hops but their blocks are the same, so are the moments of their uses
  pub use_same : (k : ℕ) (own : Hop) → own ≡ hop other k → record own { block = (hop path k).block } ≡ hop path k
      → record (use_of path k) { block = own.block } ≡ use_of other k
  use_same k own same but_block =
      let approach : (hop path k).approach_m ≡ (hop other k).approach_m = ap (λ h. h.approach_m) (sym but_block) ∙ ap (λ h. h.approach_m) same in
      let overlap : (hop path k).overlap_m ≡ (hop other k).overlap_m = ap (λ h. h.overlap_m) (sym but_block) ∙ ap (λ h. h.overlap_m) same in
      let watch : (hop path k).watch_s ≡ (hop other k).watch_s = ap (λ h. h.watch_s) (sym but_block) ∙ ap (λ h. h.watch_s) same in
      let form : (hop path k).form_s ≡ (hop other k).form_s = ap (λ h. h.form_s) (sym but_block) ∙ ap (λ h. h.form_s) same in
      let release : (hop path k).release_s ≡ (hop other k).release_s = ap (λ h. h.release_s) (sym but_block) ∙ ap (λ h. h.release_s) same in
      λ i. record {
        block = (same i).block;
        start = pos (approach_same k approach i) -ℤ pos (watch i) -ℤ pos (form i);
        «end» = pos (clearing_same k overlap i) +ℤ pos (release i);
      }
