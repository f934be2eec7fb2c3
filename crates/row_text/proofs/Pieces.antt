-- The pieces of a list.
use Rattle.std.proofs.Common.{◌≡◌, ◌≢◌, ℕ, zero, suc, ◌+◌, ◌-◌, ◌<◌, ◌≤◌, List, [], ◌∷◌, ◌++◌, length, get_or, drop, ap, ◌∙◌, refl, arith, slice_range}
use Rattle.std.proofs.lemmas.List.{drop-append-le, take-append-le, length-append, length-drop, take_all}
use Rattle.csv.specs.Records.{Rising, last_end, prev}
use Rattle.std.proofs.Math.Seq.{drop-append_seam}
use Rattle.csv.proofs.RecordFacts.{prev-first, prev-next, rising-first}
use Rattle.row_text.specs.Pieces.{pieces}

-- there is a piece for each end
pub length-pieces : {X : Type 0} (start : ℕ) (ends : List ℕ) (xs : List X) → length (pieces start ends xs) ≡ length ends
unfolding pieces
length-pieces start [] xs = refl
length-pieces start (end ∷ ends) xs = ap suc (length-pieces end ends xs)

-- the piece at a place
pub get_or-pieces : {X : Type 0} (start : ℕ) (ends : List ℕ) (xs : List X) (i : ℕ) (d : List X) → i < length ends → get_or (pieces start ends xs) i d ≡ slice_range xs (prev start ends i) (get_or ends i 0)
unfolding pieces prev
get_or-pieces start [] xs i d lt = absurd (omega arith)
get_or-pieces start (end ∷ ends) xs zero d lt = refl
get_or-pieces start (end ∷ ends) xs (suc i) d lt = get_or-pieces end ends xs i d (omega arith)

-- the first piece starts at 0, and each other where the one before it ends
pub prev-zero : (ends : List ℕ) (i : ℕ) → i ≡ 0 → prev 0 ends i ≡ 0
prev-zero ends i e = rw e (prev-first ends)

pub prev-is : (ends : List ℕ) (i : ℕ) → i ≢ 0 → i < length ends → prev 0 ends i ≡ get_or ends (i - 1) 0
prev-is ends i more lt =
    let one : (i - 1) + 1 ≡ i = omega arith in
    rw one at (prev-next 0 ends (i - 1) 0 (omega arith))

slice_range-more : {X : Type 0} (xs more : List X) (i j : ℕ) → i ≤ j → j ≤ length xs → slice_range (xs ++ more) i j ≡ slice_range xs i j
slice_range-more xs more i j le within =
    let front : i ≤ length xs = omega arith in
    let room : j - i ≤ length (drop i xs) = omega (arith, length-drop i xs) in
    rw (drop-append-le i xs more front) (take-append-le (j - i) (drop i xs) more room)

pub pieces-more : {X : Type 0} (start : ℕ) (ends : List ℕ) (xs more : List X) → Rising start ends (length xs) → pieces start ends (xs ++ more) ≡ pieces start ends xs
unfolding pieces Rising
pieces-more start [] xs more rise = refl
pieces-more start (end ∷ ends) xs more rise =
    let within : end ≤ length xs = rising-first end ends (length xs) rise.1 in
    rw (slice_range-more xs more start end rise.0 within) (ap (λ rest. slice_range xs start end ∷ rest) (pieces-more end ends xs more rise.1))

pub pieces-push : {X : Type 0} (start : ℕ) (ends : List ℕ) (xs : List X) (end : ℕ) → pieces start (ends ++ end ∷ []) xs ≡ pieces start ends xs ++ slice_range xs (last_end start ends) end ∷ []
unfolding pieces last_end
pieces-push start [] xs end = refl
pieces-push start (first ∷ ends) xs end = ap (λ rest. slice_range xs start first ∷ rest) (pieces-push first ends xs end)

-- one piece more, of all that was added
pub pieces-append : {X : Type 0} (ends : List ℕ) (xs more : List X) → Rising 0 ends (length xs) → last_end 0 ends ≡ length xs
    → pieces 0 (ends ++ length (xs ++ more) ∷ []) (xs ++ more) ≡ pieces 0 ends xs ++ more ∷ []
pieces-append ends xs more rise last =
    let rest : slice_range (xs ++ more) (length xs) (length (xs ++ more)) ≡ more =
    rw drop-append_seam (take_all (length (xs ++ more) - length xs) more (omega (arith, length-append xs more))) in
    pieces-push 0 ends (xs ++ more) (length (xs ++ more)) ∙ rw (pieces-more 0 ends xs more rise, last, rest) refl
