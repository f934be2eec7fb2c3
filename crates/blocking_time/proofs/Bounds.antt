-- The order of the moments at a block: approach, entry, exit, clearing.
use Rattle.std.proofs.Common.{◌≡◌, ℕ, zero, suc, ◌+◌, ◌-◌, ◌*◌, ◌/◌, ◌<◌, ◌≤◌, ◌⊎◌, inl, inr, max, Bool, true, false, cond, leb, get_or, refl, ap, sym, subst, ⊎_elim, ◌∙◌, arith}
use Rattle.std.specs.Int.{div_ceil}
use Rattle.std.proofs.lemmas.Grind.{common_steps, div_ceil_times}
use Rattle.std.proofs.lemmas.Bool.{cases_lt}
use Rattle.rail_model.specs.declared.path.Path.{Path}
use Rattle.rail_model.specs.Blocking.{hop, hop_count, no_hop, Fits, place, departure, reach, reach_down, blocks_before, approach_moment, clearing_place, clearing_moment}
use Rattle.blocking_time.specs.Mark.{mark_of, stop_mark}
use Rattle.blocking_time.proofs.Places.{hop_within, place_more, departure_more, places_rise, departures_rise, blocks_before_is, reach_is}
use Rattle.blocking_time.proofs.Stops.{stop_within, approach_is}
use Rattle.blocking_time.proofs.Clearing.{clearing_reached, clearing_ended}

-- a part of a block takes at most the running time of the block, rounded up
pub part_of_running : (a r l : ℕ) → 0 < l → a ≤ l → div_ceil (a * r) l ≤ r
part_of_running a r l some inside =
    let times = div_ceil_times (a * r) l some in
    grind (arith, common_steps)

at_most : (r d q t e : ℕ) → r ≡ d + q → q ≤ t → d + t ≤ e → r ≤ e
at_most r d q t e is part whole = omega arith

le_through : (a b c : ℕ) → a ≤ b → b ≤ c → a ≤ c
le_through a b c p q = omega arith

at_least : (r d q : ℕ) → r ≡ d + q → d ≤ r
at_least r d q is = omega arith

-- when the head reaches a place of the block beyond the k-th one
pub reach_law : (path : Path) (k x : ℕ) → k < hop_count path → (k ≡ 0) ⊎ (place path k < x) → x ≤ place path (k + 1) → reach path x ≡ departure path k + div_ceil ((x - place path k) * (get_or path.hops k no_hop).running_s) (get_or path.hops k no_hop).block_m
reach_law path k x on beyond within = reach_is path k x (sym (blocks_before_is path k x on beyond within))

-- by then it has not yet left that block
in_block : (path : Path) → Fits path → (k x : ℕ) → k < hop_count path → (k ≡ 0) ⊎ (place path k < x) → x ≤ place path (k + 1) → reach path x ≤ departure path (k + 1)
in_block path fits k x on beyond within =
    let h = hop_within path fits k on in
    let inside : x - place path k ≤ (get_or path.hops k no_hop).block_m = omega (arith, place_more path k on) in
    at_most (reach path x) (departure path k) (div_ceil ((x - place path k) * (get_or path.hops k no_hop).running_s) (get_or path.hops k no_hop).block_m) (get_or path.hops k no_hop).running_s (departure path (k + 1))
    (reach_law path k x on beyond within)
    (part_of_running (x - place path k) (get_or path.hops k no_hop).running_s (get_or path.hops k no_hop).block_m h.some_length inside)
    (omega (arith, departure_more path k on))

-- the head reaches the path's start at the start
pub reach_start : (path : Path) → Fits path → (x : ℕ) → x ≡ 0 → reach path x ≡ path.start_s
reach_start path fits x none =
    let entry : x ≤ place path (0 + 1) = omega arith in
    let nothing : x - place path 0 ≡ 0 = omega arith in
    reach_law path 0 x fits.some (inl refl) entry
    ∙ ap (λ a. departure path 0 + div_ceil (a * (get_or path.hops 0 no_hop).running_s) (get_or path.hops 0 no_hop).block_m) nothing
    ∙ no_part (departure path 0) path.start_s (get_or path.hops 0 no_hop).running_s (get_or path.hops 0 no_hop).block_m (hop_within path fits 0 fits.some).some_length (omega arith)
  where
    no_part : (d s r l : ℕ) → 0 < l → d ≡ s → d + div_ceil (0 * r) l ≡ s
    no_part d s r l some e =
        let none = part_of_running 0 0 l some (omega arith) in
        grind arith

-- the head has reached each place of the first m blocks before it leaves the last of them
pub reach_before : (path : Path) → Fits path → (m x : ℕ) → m ≤ hop_count path → x ≤ place path m → reach path x ≤ departure path m
reach_before path fits zero x on within =
    let entry = reach_start path fits x (omega arith) in
    let least : path.start_s ≤ departure path 0 = omega arith in
    subst (λ t. t ≤ departure path 0) (sym entry) least
reach_before path fits (suc m) x on within =
    let e : m + 1 ≡ suc m = omega arith in
    ⊎_elim
    (λ (beyond : place path m < x). subst (λ j. reach path x ≤ departure path j) e (in_block path fits m x (omega arith) (inr beyond) (subst (λ j. x ≤ place path j) (sym e) within)))
    (λ (before : x ≤ place path m). le_through (reach path x) (departure path m) (departure path (suc m)) (reach_before path fits m x (omega arith) before) (departures_rise path m (suc m) (omega arith) on))
    (cases_lt (place path m) x)

-- the head reaches a place beyond a block's end after it has left that end
pub reach_after : (path : Path) → (d k x : ℕ) → k + d ≡ hop_count path → place path k < x → x ≤ place path (hop_count path) → departure path k ≤ reach path x
reach_after path zero k x e beyond on = absurd (omega (arith, places_rise path (hop_count path) k (omega arith) (omega arith)))
reach_after path (suc d) k x e beyond on =
    ⊎_elim
    (λ (further : place path (k + 1) < x). le_through (departure path k) (departure path (k + 1)) (reach path x) (departures_rise path k (k + 1) (omega arith) (omega arith)) (reach_after path d (k + 1) x (omega arith) further on))
    (λ (here : x ≤ place path (k + 1)). at_least (reach path x) (departure path k) _ (reach_law path k x (omega arith) (inr beyond) here))
    (cases_lt (place path (k + 1)) x)

down_below_up : (d a b : ℕ) → d + a / b ≤ d + div_ceil a b
down_below_up d a b = omega arith

-- rounded down, the head reaches a place no later than rounded up
pub reach_down_below : (path : Path) (x : ℕ) → reach_down path x ≤ reach path x
reach_down_below path x =
    down_below_up (departure path (blocks_before path x)) ((x - place path (blocks_before path x)) * (hop path (blocks_before path x + 1)).running_s) (hop path (blocks_before path x + 1)).block_m

later_of : (b : Bool) (r s e : ℕ) → r ≤ e → s ≤ e → cond b (max r s) r ≤ e
later_of true r s e p q = omega arith
later_of false r s e p q = p

-- the approach moment isn't after the entry
pub approach_before_entry : (path : Path) → Fits path → (k : ℕ) → k ≤ hop_count path → approach_moment path k ≤ departure path (k - 1)
approach_before_entry path fits k on =
    let y = place path (k - 1) - (hop path k).approach_m in
    let stop = stop_within path (k - 1) (omega arith) in
    let reached = le_through (reach_down path y) (reach path y) (departure path (k - 1)) (reach_down_below path y) (reach_before path fits (k - 1) y (omega arith) (minus_below (place path (k - 1)) (hop path k).approach_m)) in
    subst (λ t. t ≤ departure path (k - 1)) (sym (approach_is path k on)) (later_of (leb y (stop_mark path (k - 1)).place_m) (reach_down path y) (stop_mark path (k - 1)).departure_s (departure path (k - 1)) reached stop.1)
  where
    minus_below : (a b : ℕ) → a - b ≤ a
    minus_below a b = omega arith

-- the entry is before the exit
pub entry_before_exit : (path : Path) → Fits path → (k : ℕ) → 1 ≤ k → k ≤ hop_count path → departure path (k - 1) < departure path k
entry_before_exit path fits k some on =
    let before : k - 1 < hop_count path = omega arith in
    let h = hop_within path fits (k - 1) before in
    let e : k - 1 + 1 ≡ k = omega arith in
    let end : departure path (k - 1 + 1) ≡ departure path k = ap (departure path) e in
    omega (arith, departure_more path (k - 1) before, h.some_running, end)

-- the clearing moment isn't before the exit, and the tail after the last departure is not before the clearing moment
pub clearing_between : (path : Path) → Fits path → (k : ℕ) → k ≤ hop_count path → (departure path k ≤ clearing_moment path k) × (clearing_moment path k ≤ departure path (hop_count path) + path.tail_s)
clearing_between path fits k on =
    let n = hop_count path in
    let x = clearing_place path k in
    let beyond : place path k < x = beyond (place path k) (hop path k).overlap_m path.length_m fits.some_length in
    ⊎_elim
    (λ (ended : place path n < x).
    let is = clearing_ended path fits k x (mark_of path k) (mark_of path n) (hop path k).overlap_m refl refl refl refl ended in
    let last = departures_rise path k n on (omega arith) in
    subst (λ t. (departure path k ≤ t) × (t ≤ departure path n + path.tail_s)) is (omega (arith, last), omega arith))
    (λ (within : x ≤ place path n).
    let is = clearing_reached path k x (mark_of path k) (mark_of path n) (hop path k).overlap_m refl refl refl refl within in
    subst (λ t. (departure path k ≤ t) × (t ≤ departure path n + path.tail_s)) is (
      reach_after path (n - k) k x (omega arith) beyond within,
      le_through (reach path x) (departure path n) (departure path n + path.tail_s) (reach_before path fits n x (omega arith) within) (omega arith),
    ))
    (cases_lt (place path n) x)
  where
    beyond : (p o l : ℕ) → 0 < l → p < p + o + l
    beyond p o l some = omega arith

-- the moment at a place with k blocks before it
pub reach_at : (path : Path) (k x : ℕ) → blocks_before path x ≡ k → reach path x ≡ departure path k + div_ceil ((x - place path k) * (hop path (k + 1)).running_s) (hop path (k + 1)).block_m
reach_at path k x e = ap (λ j. departure path j + div_ceil ((x - place path j) * (hop path (j + 1)).running_s) (hop path (j + 1)).block_m) e

pub reach_down_at : (path : Path) (k x : ℕ) → blocks_before path x ≡ k → reach_down path x ≡ departure path k + ((x - place path k) * (hop path (k + 1)).running_s) / (hop path (k + 1)).block_m
reach_down_at path k x e = ap (λ j. departure path j + ((x - place path j) * (hop path (j + 1)).running_s) / (hop path (j + 1)).block_m) e
