-- Lists that are the images of numbers that follow each other.
use Rattle.std.proofs.Common.{◌≡◌, ℕ, ◌+◌, ◌<◌, length, map, All, refl, sym, subst, arith}
use Rattle.std.specs.List.{range_with_len}
use Rattle.std.proofs.lemmas.List.FromFn.{length-map-range_with_len, get_or-map-range_with_len}
use Rattle.made_line.specs.Base.{run_from, first_runs}

-- what holds of each image holds of all
pub All-images_from : {X : Type 0} (P : X → Type 0) (f : ℕ → X) (first count : ℕ)
    → ((k : ℕ) → k < count → P (f (first + k))) → All P (map f (range_with_len first count))
All-images_from P f first count each k d below =
    let long = length-map-range_with_len f first count in
    let within : k < count = omega (arith, below, long) in
    subst P (sym (get_or-map-range_with_len f first count k (first + k) d within refl)) (each k within)

pub All-images : {X : Type 0} (P : X → Type 0) (f : ℕ → X) (count : ℕ)
    → ((k : ℕ) → k < count → P (f k)) → All P (map f (range_with_len 0 count))
All-images P f count each k d below =
    let long = length-map-range_with_len f 0 count in
    let within : k < count = omega (arith, below, long) in
    subst P (sym (get_or-map-range_with_len f 0 count k k d within (omega arith))) (each k within)

pub length-first_runs : (x count : ℕ) → length (first_runs x count) ≡ count
unfolding first_runs
length-first_runs x count = length-map-range_with_len (run_from x) 0 count

pub starts_are_small : (x : ℕ) → All (λ r. r.start_s < 1000000) (first_runs x 300)
unfolding first_runs
starts_are_small x = All-images (λ r. r.start_s < 1000000) (run_from x) 300 (λ k below. omega (arith, below))
