-- The stops before a block: the last one has the latest departure.
use Rattle.std.proofs.Common.{◌≡◌, ℕ, zero, suc, ◌+◌, ◌-◌, ◌≤◌, max, Bool, true, false, cond, ltb, leb, ◌&&◌, if◌then◌else◌, List, [], ◌∷◌, ◌++◌, map, filter, fold, get_or, refl, ap, sym, ◌∙◌, arith}
use Rattle.std.specs.List.{range_with_len}
use Rattle.std.proofs.lemmas.List.{map-append, append-nil}
use Rattle.std.proofs.lemmas.List.Elements.{filter-append}
use Rattle.std.proofs.lemmas.List.Sums.{fold_push}
use Rattle.std.proofs.lemmas.Bool.Decides.{nat_tests}
use Rattle.rail_model.specs.declared.path.Hop.{Hop}
use Rattle.rail_model.specs.declared.path.Path.{Path}
use Rattle.rail_model.specs.Blocking.{hop, hop_count, no_hop, Fits, place, departure, reach_down, approach_moment}
use Rattle.blocking_time.specs.declared.motion.Mark.{Mark}
use Rattle.blocking_time.specs.Mark.{mark_of, stop_mark, IsMarkWithin}
use Rattle.blocking_time.proofs.Places.{hop_beyond_is, places_rise, departures_rise, departure_most, place_most}

-- one number more at the end of a range
range_more : (a n m : ℕ) → a + n ≡ m → range_with_len a (suc n) ≡ range_with_len a n ++ m ∷ []
range_more a zero m e = let same : a ≡ m = omega arith in ap (λ x. x ∷ []) same
range_more a (suc n) m e = ap (λ r. a ∷ r) (range_more (a + 1) n m (omega arith))

-- the greatest of the numbers that pass, with one more number at the end
one_more : (p : ℕ → Bool) (d : ℕ → ℕ) (a m : ℕ) → (b : Bool) → p m ≡ b → (xs : List ℕ) → fold max a (map d (filter p (xs ++ m ∷ []))) ≡ cond b (max (fold max a (map d (filter p xs))) (d m)) (fold max a (map d (filter p xs)))
one_more p d a m true e xs =
    ap (λ l. fold max a (map d l)) (filter-append p xs (m ∷ []) ∙ ap (λ b. filter p xs ++ cond b (m ∷ []) []) e)
    ∙ ap (fold max a) (map-append d (filter p xs) (m ∷ [])) ∙ fold_push max a (map d (filter p xs)) (d m)
one_more p d a m false e xs =
    ap (λ l. fold max a (map d l)) (filter-append p xs (m ∷ []) ∙ ap (λ b. filter p xs ++ cond b (m ∷ []) []) e ∙ append-nil (filter p xs))

within_step : (b : Bool) (m s : Mark) (x t : ℕ) → (m.place_m ≤ x) × (m.departure_s ≤ t) → (s.place_m ≤ x) × (s.departure_s ≤ t) → ((if b then m else s).place_m ≤ x) × ((if b then m else s).departure_s ≤ t)
within_step true m s x t h g = h
within_step false m s x t h g = g

-- the last stop is on the way to the k-th block's end
pub stop_within : (path : Path) (k : ℕ) → k ≤ hop_count path → ((stop_mark path k).place_m ≤ place path k) × ((stop_mark path k).departure_s ≤ departure path k)
stop_within path zero on = (omega arith, omega arith)
stop_within path (suc k) on =
    let before = stop_within path k (omega arith) in
    let places = places_rise path k (suc k) (omega arith) on in
    let departures = departures_rise path k (suc k) (omega arith) on in
    within_step (ltb 0 (hop path (suc k)).dwell_s) (mark_of path (suc k)) (stop_mark path k) (place path (suc k)) (departure path (suc k))
    (omega arith, omega arith) (omega (arith, before.0), omega (arith, before.1))

-- a later stop takes the place of the last one
stop_step : (b : Bool) (y a all : ℕ) (m s : Mark) → all ≡ cond (leb y s.place_m) (max a s.departure_s) a → s.place_m ≤ m.place_m → s.departure_s ≤ m.departure_s → cond (b && leb y m.place_m) (max all m.departure_s) all ≡ cond (leb y (if b then m else s).place_m) (max a (if b then m else s).departure_s) a
stop_step true y a all m s e places departures = later y a all m.place_m m.departure_s s.place_m s.departure_s e places departures
  where
    later : (y a all p d q f : ℕ) → all ≡ cond (leb y q) (max a f) a → q ≤ p → f ≤ d → cond (leb y p) (max all d) all ≡ cond (leb y p) (max a d) a
    later y a all p d q f e places departures = grind (arith, nat_tests)
stop_step false y a all m s e places departures = e

-- the latest departure from a stop at or beyond a place is that of the last stop, if that isn't before the place
pub last_stop_is : (path : Path) (y a k : ℕ) → k ≤ hop_count path → fold max a (map (departure path) (filter (λ m. ltb 0 (hop path m).dwell_s && leb y (place path m)) (range_with_len 1 k))) ≡ cond (leb y (stop_mark path k).place_m) (max a (stop_mark path k).departure_s) a
last_stop_is path y a zero on = grind (arith, nat_tests)
last_stop_is path y a (suc k) on =
    let p : ℕ → Bool = λ m. ltb 0 (hop path m).dwell_s && leb y (place path m) in
    let before = stop_within path k (omega arith) in
    let places = places_rise path k (suc k) (omega arith) on in
    let departures = departures_rise path k (suc k) (omega arith) on in
    ap (λ l. fold max a (map (departure path) (filter p l))) (range_more 1 k (suc k) (omega arith))
    ∙ one_more p (departure path) a (suc k) (p (suc k)) refl (range_with_len 1 k)
    ∙ stop_step (ltb 0 (hop path (suc k)).dwell_s) y a (fold max a (map (departure path) (filter p (range_with_len 1 k)))) (mark_of path (suc k)) (stop_mark path k)
    (last_stop_is path y a k (omega arith)) (omega (arith, before.0)) (omega (arith, before.1))

-- the last stop one block further on
pub stop_more : (path : Path) (k : ℕ) → stop_mark path (k + 1) ≡ (if ltb 0 (get_or path.hops k no_hop).dwell_s then mark_of path (k + 1) else stop_mark path k)
stop_more path k =
    let e : k + 1 ≡ suc k = omega arith in
    ap (stop_mark path) e ∙ ap (λ j. if ltb 0 (hop path j).dwell_s then mark_of path j else stop_mark path k) (sym e)
    ∙ ap (λ (h : Hop). if ltb 0 h.dwell_s then mark_of path (k + 1) else stop_mark path k) (hop_beyond_is path k)

pub stop_mark_within : (path : Path) → Fits path → (k : ℕ) → k ≤ hop_count path → IsMarkWithin (stop_mark path k)
stop_mark_within path fits k on =
    let before = stop_within path k on in
    record { place = omega (arith, before.0, place_most path fits k on); departure = omega (arith, before.1, departure_most path fits k on) }

-- the approach moment by the last stop
pub approach_is : (path : Path) (k : ℕ) → k ≤ hop_count path → approach_moment path k ≡ (let y = place path (k - 1) - (hop path k).approach_m in cond (leb y (stop_mark path (k - 1)).place_m) (max (reach_down path y) (stop_mark path (k - 1)).departure_s) (reach_down path y))
approach_is path k on = let y = place path (k - 1) - (hop path k).approach_m in last_stop_is path y (reach_down path y) (k - 1) (omega arith)

-- the same for a moment that was computed in steps
pub approach_by : (path : Path) (k : ℕ) → k ≤ hop_count path → (moment y r : ℕ) (entry stop : Mark) (a : ℕ) → moment ≡ cond (leb y stop.place_m) (max r stop.departure_s) r → y ≡ entry.place_m - a → r ≡ reach_down path y → entry ≡ mark_of path (k - 1) → stop ≡ stop_mark path (k - 1) → a ≡ (hop path k).approach_m → moment ≡ approach_moment path k
approach_by path k on moment y r entry stop a by point reached at_entry at_stop approach =
    let F : ℕ → ℕ → Mark → ℕ = λ y r s. cond (leb y s.place_m) (max r s.departure_s) r in
    let here : y ≡ place path (k - 1) - (hop path k).approach_m = point ∙ ap (λ (m : Mark). m.place_m - a) at_entry ∙ ap (λ x. place path (k - 1) - x) approach in
    by ∙ ap (λ t. F y t stop) reached ∙ ap (λ s. F y (reach_down path y) s) at_stop ∙ ap (λ x. F x (reach_down path x) (stop_mark path (k - 1))) here ∙ sym (approach_is path k on)

-- the last stop among the first k blocks, by that among one block less
pub stop_at : (path : Path) (k : ℕ) → 1 ≤ k → stop_mark path k ≡ (if ltb 0 (hop path k).dwell_s then mark_of path k else stop_mark path (k - 1))
stop_at path zero some = absurd (omega arith)
stop_at path (suc k) some = let e : k ≡ suc k - 1 = omega arith in ap (λ j. if ltb 0 (hop path (suc k)).dwell_s then mark_of path (suc k) else stop_mark path j) e

-- the same for a stop that was chosen in steps
pub stop_by : (path : Path) (k : ℕ) → 1 ≤ k → (next stop mark : Mark) (h : Hop) → next ≡ (if ltb 0 h.dwell_s then mark else stop) → h ≡ hop path k → mark ≡ mark_of path k → stop ≡ stop_mark path (k - 1) → next ≡ stop_mark path k
stop_by path k some next stop mark h by at_hop at_mark at_stop =
    by ∙ ap (λ (x : Hop). if ltb 0 x.dwell_s then mark else stop) at_hop ∙ ap (λ m. if ltb 0 (hop path k).dwell_s then m else stop) at_mark
    ∙ ap (λ m. if ltb 0 (hop path k).dwell_s then mark_of path k else m) at_stop ∙ sym (stop_at path k some)
