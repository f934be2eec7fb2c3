-- Places and departures along a path that fits: they rise from block to block, and stay within bounds.
use Rattle.std.proofs.Common.{◌≡◌, ℕ, ◌+◌, ◌-◌, ◌*◌, ◌/◌, ◌<◌, ◌≤◌, ◌⊎◌, inl, inr, ap, sym, ◌∙◌, arith, get_or, length, All}
use Rattle.std.specs.Int.{div_ceil}
use Rattle.std.proofs.lemmas.List.Sums.{sum_by_more, sum_by-le, sum_by-take-le}
use Rattle.std.proofs.lemmas.List.FromFn.{get_or-map-range_with_len}
use Rattle.std.proofs.Math.Nat.{mul-le-mul_right}
use Rattle.rail_model.specs.declared.path.Path.{Path}
use Rattle.rail_model.specs.declared.path.Hop.{Hop}
use Rattle.rail_model.specs.Blocking.{hop, hop_count, no_hop, Fits, IsHopWithin, place, departure, blocks_before, reach, reach_down}
use Rattle.blocking_time.specs.declared.motion.Mark.{Mark}
use Rattle.blocking_time.specs.Mark.{mark_of, marks_of, IsMarkWithin}
use Rattle.blocking_time.proofs.Counts.{count_below, rising}

-- the hop beyond the k-th block
pub hop_beyond_is : (path : Path) (k : ℕ) → hop path (k + 1) ≡ get_or path.hops k no_hop
hop_beyond_is path k = let e : k + 1 - 1 ≡ k = omega arith in ap (λ i. get_or path.hops i no_hop) e

pub hop_within : (path : Path) → Fits path → (k : ℕ) → k < hop_count path → IsHopWithin (get_or path.hops k no_hop)
hop_within path fits k on = fits.hops k no_hop on

pub place_more : (path : Path) (k : ℕ) → k < hop_count path → place path (k + 1) ≡ place path k + (get_or path.hops k no_hop).block_m
place_more path k on = sum_by_more (λ (h : Hop). h.block_m) path.hops k no_hop on

pub departure_more : (path : Path) (k : ℕ) → k < hop_count path → departure path (k + 1) ≡ departure path k + ((get_or path.hops k no_hop).running_s + (get_or path.hops k no_hop).dwell_s)
departure_more path k on =
    let more = sum_by_more (λ (h : Hop). h.running_s + h.dwell_s) path.hops k no_hop on in
    omega (arith, more)

pub places_rise : (path : Path) (i j : ℕ) → i ≤ j → j ≤ hop_count path → place path i ≤ place path j
places_rise path = rising (place path) (hop_count path) (λ k on. omega (arith, place_more path k on))

pub departures_rise : (path : Path) (i j : ℕ) → i ≤ j → j ≤ hop_count path → departure path i ≤ departure path j
departures_rise path = rising (departure path) (hop_count path) (λ k on. omega (arith, departure_more path k on))

-- a place inside the block beyond the k-th one has k blocks before it
pub blocks_before_is : (path : Path) (k x : ℕ) → k < hop_count path → (k ≡ 0) ⊎ (place path k < x) → x ≤ place path (k + 1) → blocks_before path x ≡ k
blocks_before_is path k x on beyond within =
    count_below (place path) x (hop_count path) 1 k (omega arith)
    (λ i p q. elim beyond [ inl none ↦ absurd (omega arith) | inr below ↦ omega (arith, places_rise path i k (omega arith) (omega arith)) ])
    (λ i p q. omega (arith, places_rise path (k + 1) i (omega arith) (omega arith)))

-- a place beyond the last block has all blocks before it
pub blocks_before_all : (path : Path) (x : ℕ) → place path (hop_count path) < x → blocks_before path x ≡ hop_count path
blocks_before_all path x beyond =
    count_below (place path) x (hop_count path) 1 (hop_count path) (omega arith)
    (λ i p q. omega (arith, places_rise path i (hop_count path) (omega arith) (omega arith)))
    (λ i p q. absurd (omega arith))

-- the k-th departure is at most the start and 256 hops' running times and dwells
pub departure_most : (path : Path) → Fits path → (k : ℕ) → k ≤ hop_count path → departure path k ≤ 44841600
departure_most path fits k on =
    let each : All (λ (h : Hop). h.running_s + h.dwell_s ≤ 172800) path.hops =
    λ i d below. let h = fits.hops i d below in omega (arith, h.most_running, h.dwell) in
    let whole = sum_by-le (λ (h : Hop). h.running_s + h.dwell_s) 172800 path.hops each in
    let part = sum_by-take-le (λ (h : Hop). h.running_s + h.dwell_s) path.hops k in
    let hops : length path.hops ≤ 256 = fits.most in
    omega (arith, fits.start, whole, part, mul-le-mul_right 172800 hops)

-- the k-th block ends within 256 blocks of the greatest length
pub place_most : (path : Path) → Fits path → (k : ℕ) → k ≤ hop_count path → place path k ≤ 256000000
place_most path fits k on =
    let each : All (λ (h : Hop). h.block_m ≤ 1000000) path.hops = λ i d below. (fits.hops i d below).most_length in
    let whole = sum_by-le (λ (h : Hop). h.block_m) 1000000 path.hops each in
    let part = sum_by-take-le (λ (h : Hop). h.block_m) path.hops k in
    let hops : length path.hops ≤ 256 = fits.most in
    omega (arith, whole, part, mul-le-mul_right 1000000 hops)

-- when the head reaches a place of the block beyond the k-th one, by that block alone
pub reach_is : (path : Path) (k x : ℕ) → k ≡ blocks_before path x → reach path x ≡ departure path k + div_ceil ((x - place path k) * (get_or path.hops k no_hop).running_s) (get_or path.hops k no_hop).block_m
reach_is path k x e =
    ap (λ j. departure path j + div_ceil ((x - place path j) * (hop path (j + 1)).running_s) (hop path (j + 1)).block_m) (sym e)
    ∙ ap (λ (h : Hop). departure path k + div_ceil ((x - place path k) * h.running_s) h.block_m) (hop_beyond_is path k)

pub reach_down_is : (path : Path) (k x : ℕ) → k ≡ blocks_before path x → reach_down path x ≡ departure path k + ((x - place path k) * (get_or path.hops k no_hop).running_s) / (get_or path.hops k no_hop).block_m
reach_down_is path k x e =
    ap (λ j. departure path j + ((x - place path j) * (hop path (j + 1)).running_s) / (hop path (j + 1)).block_m) (sym e)
    ∙ ap (λ (h : Hop). departure path k + ((x - place path k) * h.running_s) / h.block_m) (hop_beyond_is path k)

pub mark_within : (path : Path) → Fits path → (k : ℕ) → k ≤ hop_count path → IsMarkWithin (mark_of path k)
mark_within path fits k on = record { place = place_most path fits k on; departure = departure_most path fits k on }

-- the k-th mark of the table of all marks
pub marks_at : (path : Path) (k : ℕ) (d : Mark) → k ≤ hop_count path → get_or (marks_of path) k d ≡ mark_of path k
marks_at path k d on = get_or-map-range_with_len (mark_of path) 0 (hop_count path + 1) k k d (omega arith) (omega arith)
