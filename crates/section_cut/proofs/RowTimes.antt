-- Uses at the places of some and with the times of others.
use Rattle.std.proofs.Common.{◌≡◌, ℕ, suc, ◌+◌, ◌<◌, min, List, [], ◌∷◌, ◌++◌, map, length, take, get_or, refl, ap, ◌∙◌, arith}
use Rattle.std.specs.Prelude.{ℤ}
use Rattle.std.specs.List.{zip}
use Rattle.std.proofs.lemmas.List.{take_more, length-map, get_or-map}
use Rattle.std.proofs.lemmas.Slice.Zip.{length-zip, get_or-zip}
use Rattle.rail_model.specs.declared.stair.Use.{Use}
use Rattle.plan_model.specs.Members.{no_use}
use Rattle.section_cut.specs.Times.{with_time, with_times}

-- one use more
pub with_times_more : (places times : List Use) (k : ℕ) → k < length places → k < length times
    → take (k + 1) (with_times places times) ≡ take k (with_times places times) ++ with_time (get_or places k no_use) (get_or times k no_use) ∷ []
with_times_more places times k here timed =
    let within : k < length (zip places times) = omega (arith, length-zip places times) in
    let f : Use × Use → Use = λ p. with_time p.0 p.1 in
    take_more (with_times places times) k no_use (omega (arith, length-map (zip places times) f))
    ∙ ap (λ u. take k (with_times places times) ++ u ∷ [])
    (get_or-map f (zip places times) k (no_use, no_use) no_use within ∙ ap f (get_or-zip places times k (no_use, no_use) here timed))

pub length-with_times : (places times : List Use) → length (with_times places times) ≡ min (length places) (length times)
length-with_times places times = length-map (zip places times) (λ (p : Use × Use). with_time p.0 p.1) ∙ length-zip places times

-- the starts are those of the times
pub starts_of_times : (places times : List Use) → length places ≡ length times
    → map (λ (u : Use). u.start) (with_times places times) ≡ map (λ (u : Use). u.start) times
starts_of_times [] [] long = refl
starts_of_times [] (u ∷ times) long = absurd (omega (arith, long))
starts_of_times (p ∷ places) [] long = absurd (omega (arith, long))
starts_of_times (p ∷ places) (u ∷ times) long = ap (λ (ss : List ℤ). u.start ∷ ss) (starts_of_times places times (omega (arith, long)))

-- places that are those of the times by a function
pub placed_by : (f : ℕ → ℕ) (places times : List Use) → length places ≡ length times
    → ((k : ℕ) → k < length times → (get_or places k no_use).block ≡ f (get_or times k no_use).block)
    → with_times places times ≡ map (λ (u : Use). record u { block = f u.block }) times
placed_by f [] [] long each = refl
placed_by f [] (u ∷ times) long each = absurd (omega (arith, long))
placed_by f (p ∷ places) [] long each = absurd (omega (arith, long))
placed_by f (p ∷ places) (u ∷ times) long each =
    ap (λ (b : ℕ). record u { block = b } ∷ with_times places times) (each 0 (omega arith))
    ∙ ap (λ us. record u { block = f u.block } ∷ us) (placed_by f places times (omega (arith, long)) (λ k l. each (suc k) (omega (arith, l))))
