-- A list in parts, one after the other.
use Rattle.std.proofs.Common.{◌≡◌, ℕ, zero, suc, ◌-◌, ◌<◌, ◌≤◌, List, [], ◌∷◌, ◌++◌, length, get_or, drop, refl, ap, arith, slice_range}
use Rattle.std.proofs.lemmas.List.{take_all, take-append-le, drop-append-le, drop_at, length-append, length-drop}
use Rattle.train_net.specs.Parts.{parts, AreEnds}

-- there is a part for each end
pub length-parts : {X : Type 0} (start : ℕ) (ends : List ℕ) (xs : List X) → length (parts start ends xs) ≡ length ends
length-parts start [] xs = refl
length-parts start (end ∷ ends) xs = ap suc (length-parts end ends xs)

-- each part starts where the one before it ends
pub get_or-parts : {X : Type 0} (start : ℕ) (ends : List ℕ) (xs : List X) (i : ℕ) (d : List X) → i < length ends
    → get_or (parts start ends xs) i d ≡ slice_range xs (get_or (start ∷ ends) i 0) (get_or ends i 0)
get_or-parts start [] xs i d l = absurd (omega arith)
get_or-parts start (end ∷ ends) xs zero d l = refl
get_or-parts start (end ∷ ends) xs (suc i) d l = get_or-parts end ends xs i d (omega arith)

-- the ends lie within the list
pub within : (start : ℕ) (ends : List ℕ) (count : ℕ) → AreEnds start ends count → start ≤ count
within start [] count are = omega (arith, are)
within start (end ∷ ends) count are = omega (arith, are.0, within end ends count are.1)

pub part_within : (start : ℕ) (ends : List ℕ) (count i : ℕ) → AreEnds start ends count → i < length ends
    → (get_or (start ∷ ends) i 0 ≤ get_or ends i 0) × (get_or ends i 0 ≤ count)
part_within start [] count i are l = absurd (omega arith)
part_within start (end ∷ ends) count zero are l = (are.0, within end ends count are.1)
part_within start (end ∷ ends) count (suc i) are l = part_within end ends count i are.1 (omega arith)

-- ---- one part more

pub ends_more : (start : ℕ) (ends : List ℕ) (count next : ℕ) → AreEnds start ends count → count ≤ next
    → AreEnds start (ends ++ next ∷ []) next
ends_more start [] count next are le = (omega (arith, are, le), refl)
ends_more start (end ∷ ends) count next are le = (are.0, ends_more end ends count next are.1 le)

part_stays : {X : Type 0} (xs more : List X) (i j : ℕ) → i ≤ j → j ≤ length xs → slice_range (xs ++ more) i j ≡ slice_range xs i j
part_stays xs more i j le within =
    let front : i ≤ length xs = omega arith in
    let room : j - i ≤ length (drop i xs) = omega (arith, length-drop i xs) in
    rw (drop-append-le i xs more front) (take-append-le (j - i) (drop i xs) more room)

pub parts_more : {X : Type 0} (start : ℕ) (ends : List ℕ) (xs more : List X) → AreEnds start ends (length xs)
    → parts start (ends ++ length (xs ++ more) ∷ []) (xs ++ more) ≡ parts start ends xs ++ more ∷ []
parts_more start [] xs more are =
    let rest : slice_range (xs ++ more) start (length (xs ++ more)) ≡ more =
    rw (drop_at xs more start (let e = are in omega arith)) (take_all (length (xs ++ more) - start) more (omega (arith, are, length-append xs more))) in
    rw rest
parts_more start (end ∷ ends) xs more are =
    rw (part_stays xs more start end are.0 (within end ends (length xs) are.1))
    (ap (λ rest. slice_range xs start end ∷ rest) (parts_more end ends xs more are.1))
