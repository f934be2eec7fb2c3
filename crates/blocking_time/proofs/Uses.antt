-- The uses of a run: none is empty, all lie within the greatest moment, and no block is used twice.
use Rattle.std.proofs.Common.{◌≡◌, ◌≢◌, ℕ, ◌+◌, ◌-◌, ◌<◌, ◌≤◌, ℤ, pos, ◌+ℤ◌, ◌-ℤ◌, ◌<ℤ◌, List, map, length, get_or, All, AllPairs, ap, sym, ◌∙◌, arith}
use Rattle.std.specs.List.{range_with_len}
use Rattle.std.proofs.lemmas.Int.{ints}
use Rattle.std.proofs.lemmas.List.{length-map, get_or-map}
use Rattle.std.proofs.lemmas.List.Elements.{All-same}
use Rattle.std.proofs.lemmas.List.FromFn.{length-map-range_with_len, get_or-map-range_with_len}
use Rattle.rail_model.specs.declared.path.Hop.{Hop}
use Rattle.rail_model.specs.declared.path.Path.{Path}
use Rattle.rail_model.specs.declared.stair.Use.{Use}
use Rattle.rail_model.specs.Blocking.{hop, hop_count, no_hop, Fits, departure, approach_moment, clearing_moment, blocking_start, blocking_end, use_of, stairway}
use Rattle.rail_model.specs.Moment.{IsMoment}
use Rattle.rail_model.proofs.Lists.{All-from_one}
use Rattle.blocking_time.specs.Blocking.{IsUseBounded, blocking_of}
use Rattle.blocking_time.specs.declared.moments.Moments.{Moments}
use Rattle.blocking_time.specs.declared.walk.Blocking.{Blocking}
use Rattle.blocking_time.specs.Moments.{moments_of, use_by, parts_by}
use Rattle.blocking_time.proofs.Places.{hop_beyond_is, hop_within, departure_most}
use Rattle.blocking_time.proofs.Bounds.{approach_before_entry, entry_before_exit, clearing_between}

abbrev pub blocking : Use → List ℤ → Blocking
blocking used six = record { used = used; parts = six }

rises : (a w f c r e x : ℕ) → a ≤ e → e < x → x ≤ c → (pos a -ℤ pos w -ℤ pos f) <ℤ (pos c +ℤ pos r)
rises a w f c r e x p q s = omega (arith, ints)

-- a blocking ends after its start
pub not_empty : (path : Path) → Fits path → (k : ℕ) → 1 ≤ k → k ≤ hop_count path → blocking_start path k <ℤ blocking_end path k
not_empty path fits k some on =
    rises (approach_moment path k) (hop path k).watch_s (hop path k).form_s (clearing_moment path k) (hop path k).release_s (departure path (k - 1)) (departure path k)
    (approach_before_entry path fits k on) (entry_before_exit path fits k some on) (clearing_between path fits k on).0

near_before : (a w f : ℕ) → a ≤ 44928000 → w ≤ 86400 → f ≤ 86400 → IsMoment (pos a -ℤ pos w -ℤ pos f)
near_before a w f p q s = record { after = omega (arith, ints); before = omega (arith, ints) }

near_after : (c r : ℕ) → c ≤ 44928000 → r ≤ 86400 → IsMoment (pos c +ℤ pos r)
near_after c r p q = record { after = omega (arith, ints); before = omega (arith, ints) }

-- it starts and ends at moments
pub bounded : (path : Path) → Fits path → (k : ℕ) → 1 ≤ k → k ≤ hop_count path → IsUseBounded (use_of path k)
bounded path fits k some on =
    let h = hop_within path fits (k - 1) (omega arith) in
    let entry = departure_most path fits (k - 1) (omega arith) in
    let last = departure_most path fits (hop_count path) (omega arith) in
    record {
      start = near_before (approach_moment path k) (hop path k).watch_s (hop path k).form_s (at_most (approach_moment path k) (departure path (k - 1)) (approach_before_entry path fits k on) entry) h.watch h.form;
      «end» = near_after (clearing_moment path k) (hop path k).release_s (by_tail (clearing_moment path k) (departure path (hop_count path)) path.tail_s (clearing_between path fits k on).1 last fits.tail) h.release;
    }
  where
    at_most : (a d : ℕ) → a ≤ d → d ≤ 44841600 → a ≤ 44928000
    at_most a d p q = omega arith

    by_tail : (c d t : ℕ) → c ≤ d + t → d ≤ 44841600 → t ≤ 86400 → c ≤ 44928000
    by_tail c d t p q r = omega arith

-- the uses are of the hops' blocks
block_at : (path : Path) (i : ℕ) (d : ℕ) → i < hop_count path → get_or (map (λ (u : Use). u.block) (stairway path)) i d ≡ get_or (map (λ (h : Hop). h.block) path.hops) i d
block_at path i d below =
    let count = length-map-range_with_len (use_of path) 1 (hop_count path) in
    let use_within : i < length (stairway path) = omega (arith, count) in
    let e : 1 + i ≡ i + 1 = omega arith in
    get_or-map (λ (u : Use). u.block) (stairway path) i (use_of path 0) d use_within
    ∙ ap (λ (u : Use). u.block) (get_or-map-range_with_len (use_of path) 1 (hop_count path) i (i + 1) (use_of path 0) below e)
    ∙ ap (λ (h : Hop). h.block) (hop_beyond_is path i)
    ∙ sym (get_or-map (λ (h : Hop). h.block) path.hops i no_hop d below)

-- no block is used twice
pub blocks_differ : (path : Path) → Fits path → AllPairs (λ a b. a ≢ b) (map (λ (u : Use). u.block) (stairway path))
blocks_differ path fits i j d before below =
    let uses : length (map (λ (u : Use). u.block) (stairway path)) ≡ hop_count path = length-map (stairway path) (λ (u : Use). u.block) ∙ length-map-range_with_len (use_of path) 1 (hop_count path) in
    let hops : length (map (λ (h : Hop). h.block) path.hops) ≡ hop_count path = length-map path.hops (λ (h : Hop). h.block) in
    let within : j < hop_count path = omega arith in
    let first = block_at path i d (omega arith) in
    let second = block_at path j d within in
    λ same. fits.blocks_differ i j d before (omega arith) (sym first ∙ same ∙ second)

-- a blocking that was made of its moments
pub blocking_by : (path : Path) (k : ℕ) (m : Moments) (h : Hop) (used : Use) (six : List ℤ) → m ≡ moments_of path k → h ≡ hop path k → used ≡ use_by m h → six ≡ parts_by m h → blocking used six ≡ blocking_of path k
blocking_by path k m h used six at_moments at_hop is_use is_parts =
    ap (λ u. blocking u six) is_use ∙ ap (λ p. blocking (use_by m h) p) is_parts
    ∙ ap (λ x. blocking (use_by x h) (parts_by x h)) at_moments ∙ ap (λ x. blocking (use_by (moments_of path k) x) (parts_by (moments_of path k) x)) at_hop

-- what holds of the blockings of all hops of a path
pub All-blockings : (P : Blocking → Type 0) (path : Path) → ((k : ℕ) → 1 ≤ k → k ≤ hop_count path → P (blocking_of path k)) → (all : List Blocking) (n : ℕ) → all ≡ map (blocking_of path) (range_with_len 1 n) → n ≡ hop_count path → All P all
All-blockings P path each all n is count =
    All-same P all (map (blocking_of path) (range_with_len 1 (hop_count path))) (is ∙ ap (λ j. map (blocking_of path) (range_with_len 1 j)) count) (All-from_one P (blocking_of path) (hop_count path) each)

-- a use that was made of its block's moments
pub use_is : (path : Path) (k : ℕ) (m : Moments) (h : Hop) (used : Use) → m ≡ moments_of path k → h ≡ hop path k → used ≡ use_by m h → used ≡ use_of path k
use_is path k m h used at_moments at_hop is_use =
    is_use ∙ ap (λ x. use_by x h) at_moments ∙ ap (λ x. use_by (moments_of path k) x) at_hop
