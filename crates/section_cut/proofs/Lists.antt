-- Lists: what passes a test by its number, and items with their numbers.
use Rattle.std.proofs.Common.{◌≡◌, ℕ, zero, suc, ◌+◌, ◌<◌, ◌≤◌, Bool, true, cond, Some, List, [], ◌∷◌, ◌++◌, length, get_or, take, refl, ap, ◌∙◌, inl, inr, arith}
use Rattle.std.specs.Prelude.{filter, slice_get}
use Rattle.std.specs.List.{enumerate_from}
use Rattle.std.proofs.lemmas.Bool.{cases_Bool}
use Rattle.std.proofs.lemmas.Option.{get_or_from_slice_get}
use Rattle.std.proofs.lemmas.List.Elements.{filter_more}
use Rattle.std.proofs.lemmas.List.Sums.{length-filter, count_by-le-length}

-- an item that passes a test stands among those that pass, after those that pass before it
pub passing_at : {X : Type 0} (p : X → Bool) (xs : List X) (k : ℕ) (d : X) → k < length xs → p (get_or xs k d) ≡ true
    → (length (filter p (take k xs)) < length (filter p xs))
    × (get_or (filter p xs) (length (filter p (take k xs))) d ≡ get_or xs k d)
passing_at p [] k d l h = absurd (omega (arith, l))
passing_at p (x ∷ xs) zero d l h = rw h (omega arith, refl)
passing_at p (x ∷ xs) (suc k) d l h =
    let rest = passing_at p xs k d (omega (arith, l)) h in
    elim (cases_Bool (p x)) [
      | inl e ↦ rw e (omega (arith, rest.0), rest.1)
      | inr e ↦ rw e rest
    ]

-- an item more with its number
pub enumerate_push : {X : Type 0} (n : ℕ) (xs : List X) (x : X)
    → enumerate_from n (xs ++ x ∷ []) ≡ enumerate_from n xs ++ (n + length xs, x) ∷ []
enumerate_push n [] x = ap (λ k. (k, x) ∷ []) (omega arith)
enumerate_push n (y ∷ xs) x =
    ap (λ r. (n, y) ∷ r)
    (enumerate_push (n + 1) xs x ∙ ap (λ k. enumerate_from (n + 1) xs ++ (k, x) ∷ []) (omega arith))

-- what passes a test, with the next item
pub filter_next : {X : Type 0} (p : X → Bool) (xs : List X) (n : ℕ) (x : X) (b : Bool) → n < length xs
    → slice_get xs n ≡ Some x → p x ≡ b → filter p (take (n + 1) xs) ≡ filter p (take n xs) ++ cond b (x ∷ []) []
filter_next p xs n x b l read test =
    let at = get_or_from_slice_get xs n x x read in
    filter_more p xs n x l
    ∙ ap (λ y. filter p (take n xs) ++ cond (p y) (y ∷ []) []) at
    ∙ ap (λ c. filter p (take n xs) ++ cond c (x ∷ []) []) test

pub few_pass : {X : Type 0} (p : X → Bool) (xs : List X) → length (filter p xs) ≤ length xs
few_pass p xs = omega (arith, length-filter p xs, count_by-le-length p xs)
