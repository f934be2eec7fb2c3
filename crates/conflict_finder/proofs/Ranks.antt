-- The runs in the order of their names.
use Rattle.std.proofs.Common.{◌≡◌, ◌≢◌, ℕ, ◌<◌, false, List, length, get_or, refl, sym, ap, ◌∙◌, subst, arith}
use Rattle.std.specs.List.{All, AllPairs, Contains}
use Rattle.std.specs.List.Sorted.{IsPermutation, IsSortedByKey}
use Rattle.std.specs.declared.cmp.Ordering.{Ordering}
use Rattle.std.specs.declared.cmp.Ordering.TheVariants.{Less, Equal, Greater}
use Rattle.std.specs.Ordering.{nat_cmp, is_lt}
use Rattle.std.specs.Cmp.Lexicographic.{slice_cmp}
use Rattle.std.proofs.lemmas.Cmp.{nat_list_cmp_total}
use Rattle.std.proofs.lemmas.List.Elements.{Contains-get_or}
use Rattle.std.proofs.lemmas.List.FromFn.{length-map-range_with_len, get_or-map-range_with_len}
use Rattle.std.proofs.lemmas.List.Sorted.{length_permutation, All-permutation, Contains-permutation, sorted_far, ranks_by}
use Rattle.rail_model.specs.declared.stair.Stair.{Stair}
use Rattle.rail_model.specs.Name.{IsBefore}
use Rattle.rail_model.proofs.NameOrder.{same_name, is_same-equal, IsBefore-flip}
use Rattle.conflict_finder.specs.declared.ranked.Ranked.{Ranked}
use Rattle.rail_model.specs.Conflict.{IsTimetable, no_stair}
use Rattle.conflict_finder.specs.Runs.{no_ranked, ranked_at, runs_of}
use Rattle.conflict_finder.proofs.Lists.{Apart, apart_at, apart_from_pairs, Apart-permutation}

-- the runs are those of the stairways, and their names rise
pub record AreRanked (stairs : List Stair) (runs : List Ranked) : Type 0 where
  pub count : length runs ≡ length stairs
  pub there : All (λ r. r.stair < length stairs) runs
  pub named : All (λ r. r ≡ ranked_at stairs r.stair) runs
  pub each : (i : ℕ) → i < length stairs → Contains runs (ranked_at stairs i)
  pub rise : AllPairs (λ a b. IsBefore a.name b.name) runs

names_apart : (stairs : List Stair) → IsTimetable stairs → Apart (λ (a b : Ranked). a.name ≢ b.name) (runs_of stairs)
names_apart stairs t =
    apart_from_pairs (λ (a b : Ranked). a.name ≢ b.name) (λ a b ne e. ne (sym e)) (runs_of stairs) (λ i j d lt l.
    let long : length (runs_of stairs) ≡ length stairs = length-map-range_with_len (ranked_at stairs) 0 (length stairs) in
    rw (get_or-map-range_with_len (ranked_at stairs) 0 (length stairs) i i d (omega arith) (omega arith), get_or-map-range_with_len (ranked_at stairs) 0 (length stairs) j j d (omega arith) (omega arith))
    (t.names_differ i j no_stair lt (omega arith)))

-- of two names that differ, the one that isn't greater comes before
not_greater : (a b : List ℕ) → a ≢ b → is_lt (slice_cmp nat_cmp b a) ≡ false → IsBefore a b
not_greater a b ne h =
    let order : (o : Ordering) → slice_cmp nat_cmp a b ≡ o → IsBefore a b = λ o.
    elim o as (λ o. slice_cmp nat_cmp a b ≡ o → IsBefore a b) [
      | Less ↦ λ e. e
      | Equal ↦ λ e. absurd (ne (same_name a b (is_same-equal a b e)))
      | Greater ↦ λ e. absurd (let less : slice_cmp nat_cmp b a ≡ Less = IsBefore-flip a b e in let yes = ap is_lt less in (cc))
    ] in
    order (slice_cmp nat_cmp a b) refl

pub ranked_by : (stairs : List Stair) (runs : List Ranked) → IsTimetable stairs → IsPermutation (runs_of stairs) runs → IsSortedByKey (λ r. r.name) (slice_cmp nat_cmp) runs → AreRanked stairs runs
ranked_by stairs runs t same order =
    let long : length (runs_of stairs) ≡ length stairs = length-map-range_with_len (ranked_at stairs) 0 (length stairs) in
    let read : (i : ℕ) (d : Ranked) → i < length stairs → get_or (runs_of stairs) i d ≡ ranked_at stairs i =
    λ i d l. get_or-map-range_with_len (ranked_at stairs) 0 (length stairs) i i d l (omega arith) in
    let far = sorted_far (λ (a b : Ranked). is_lt (slice_cmp nat_cmp a.name b.name)) (ranks_by nat_list_cmp_total (λ (r : Ranked). r.name)) runs order in
    let apart = Apart-permutation (λ (a b : Ranked). a.name ≢ b.name) (runs_of stairs) runs (names_apart stairs t) same in
    record {
      count = length_permutation (runs_of stairs) runs same ∙ long;
      there = All-permutation (λ (r : Ranked). r.stair < length stairs) (runs_of stairs) runs same (λ k d l. rw (read k d (omega arith)) (omega arith));
      named = All-permutation (λ (r : Ranked). r ≡ ranked_at stairs r.stair) (runs_of stairs) runs same (λ k d l. rw (read k d (omega arith)) refl);
      each = λ i l. Contains-permutation (runs_of stairs) runs (ranked_at stairs i) same (subst (Contains (runs_of stairs)) (read i no_ranked l) (Contains-get_or (runs_of stairs) i no_ranked (omega arith)));
      rise = λ i j d lt l. not_greater (get_or runs i d).name (get_or runs j d).name (apart_at (λ (a b : Ranked). a.name ≢ b.name) runs apart i j d (omega arith) l (omega arith)) (far i j d (omega arith) l);
    }
