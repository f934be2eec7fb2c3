-- The clearing moment, by where the path ends.
use Rattle.std.proofs.Common.{◌≡◌, ℕ, zero, suc, ◌+◌, ◌<◌, ◌≤◌, cond, get_or, ap, sym, ◌∙◌, arith}
use Rattle.std.proofs.lemmas.Bool.{le-leb, lt-leb}
use Rattle.rail_model.specs.declared.path.Hop.{Hop}
use Rattle.rail_model.specs.declared.path.Path.{Path}
use Rattle.rail_model.specs.Blocking.{hop, hop_count, no_hop, Fits, place, departure, arrival, reach, clearing_place, clearing_moment}
use Rattle.blocking_time.specs.declared.motion.Mark.{Mark}
use Rattle.blocking_time.specs.Mark.{mark_of}
use Rattle.blocking_time.proofs.Places.{departure_more, hop_beyond_is}

-- without a dwell the head leaves as it arrives
pub arrival_is : (path : Path) (n : ℕ) → 0 < n → n ≤ hop_count path → (hop path n).dwell_s ≡ 0 → arrival path n ≡ departure path n
arrival_is path zero some on none = absurd (omega arith)
arrival_is path (suc k) some on none =
    let more = departure_more path k (omega arith) in
    let e : k + 1 ≡ suc k = omega arith in
    let end : departure path (k + 1) ≡ departure path (suc k) = ap (departure path) e in
    let same : hop path (suc k) ≡ get_or path.hops k no_hop = ap (hop path) (sym e) ∙ hop_beyond_is path k in
    omega (arith, ap (λ (h : Hop). h.running_s) same, ap (λ (h : Hop). h.dwell_s) same)

-- the clearing place, computed in steps
clearing_place_is : (path : Path) (k x : ℕ) (mark : Mark) (overlap : ℕ) → mark ≡ mark_of path k → overlap ≡ (hop path k).overlap_m → x ≡ mark.place_m + overlap + path.length_m → x ≡ clearing_place path k
clearing_place_is path k x mark overlap at_mark is_overlap at =
    at ∙ ap (λ (m : Mark). m.place_m + overlap + path.length_m) at_mark ∙ ap (λ o. place path k + o + path.length_m) is_overlap

-- the path goes on to the clearing place
pub clearing_reached : (path : Path) (k x : ℕ) (mark last : Mark) (overlap : ℕ) → mark ≡ mark_of path k → last ≡ mark_of path (hop_count path) → overlap ≡ (hop path k).overlap_m → x ≡ mark.place_m + overlap + path.length_m → x ≤ last.place_m → reach path x ≡ clearing_moment path k
clearing_reached path k x mark last overlap at_mark at_last is_overlap at within =
    let here = clearing_place_is path k x mark overlap at_mark is_overlap at in
    let end = ap (λ (m : Mark). m.place_m) at_last in
    let on : clearing_place path k ≤ place path (hop_count path) = omega (arith, here, end) in
    ap (reach path) here
    ∙ sym (ap (λ b. cond b (reach path (clearing_place path k)) (arrival path (hop_count path) + path.tail_s)) (le-leb (clearing_place path k) (place path (hop_count path)) on))

-- the path ends before the clearing place
pub clearing_ended : (path : Path) → Fits path → (k x : ℕ) (mark last : Mark) (overlap : ℕ) → mark ≡ mark_of path k → last ≡ mark_of path (hop_count path) → overlap ≡ (hop path k).overlap_m → x ≡ mark.place_m + overlap + path.length_m → last.place_m < x → last.departure_s + path.tail_s ≡ clearing_moment path k
clearing_ended path fits k x mark last overlap at_mark at_last is_overlap at beyond =
    let here = clearing_place_is path k x mark overlap at_mark is_overlap at in
    let end = ap (λ (m : Mark). m.place_m) at_last in
    let off : place path (hop_count path) < clearing_place path k = omega (arith, here, end) in
    let last_arrival = arrival_is path (hop_count path) fits.some (omega arith) fits.last_dwell in
    ap (λ (m : Mark). m.departure_s + path.tail_s) at_last ∙ ap (λ t. t + path.tail_s) (sym last_arrival)
    ∙ sym (ap (λ b. cond b (reach path (clearing_place path k)) (arrival path (hop_count path) + path.tail_s)) (lt-leb (clearing_place path k) (place path (hop_count path)) off))
