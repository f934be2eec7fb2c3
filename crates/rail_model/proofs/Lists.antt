-- Lists: images, pairs, ranges that grow by one, and what is found first.
use Rattle.std.proofs.Common.{◌≡◌, ℕ, suc, ◌+◌, ◌<◌, Bool, false, None, List, [], ◌∷◌, ◌++◌, map, length, refl, sym, ap, ◌∙◌, inl, inr, arith, ◌≤◌, subst}
use Rattle.std.specs.Prelude.{All, AllPairs, find, option_map}
use Rattle.std.specs.List.{flat_map, range_with_len}
use Rattle.std.proofs.lemmas.Bool.{cases_Bool}
use Rattle.std.proofs.lemmas.List.{append-nil, length-map, get_or-map}
use Rattle.std.proofs.lemmas.List.Concat.{flat_map-append}
use Rattle.std.proofs.lemmas.List.Elements.{All-head, All-tail, All-append}
use Rattle.std.proofs.lemmas.List.FromFn.{map-range_with_len_more, length-map-range_with_len, get_or-map-range_with_len}
use Rattle.std.proofs.lemmas.List.Kept.{AllPairs-cons}

-- ---- images

pub map_itself : {X : Type 0} (xs : List X) → map (λ x. x) xs ≡ xs
map_itself [] = refl
map_itself (x ∷ xs) = ap (λ ys. x ∷ ys) (map_itself xs)

-- two functions that agree at each item have the same images
pub map_same : {X Y : Type 0} (f g : X → Y) (xs : List X) → All (λ x. f x ≡ g x) xs
    → map f xs ≡ map g xs
map_same f g [] h = refl
map_same f g (x ∷ xs) h =
    ap (λ y. y ∷ map f xs) (All-head (λ x. f x ≡ g x) x xs h)
    ∙ ap (λ ys. g x ∷ ys) (map_same f g xs (All-tail (λ x. f x ≡ g x) x xs h))

-- ---- pairs

-- what holds of all pairs of items holds of all pairs of their images
pub AllPairs-map : {X Y : Type 0} (f : X → Y) (R : Y → Y → Type 0) (xs : List X)
    → AllPairs (λ a b. R (f a) (f b)) xs → AllPairs R (map f xs)
AllPairs-map f R [] pairs i j d before below = absurd (omega (arith, below))
AllPairs-map f R (x ∷ xs) pairs i j d before below =
    let within : j < length (x ∷ xs) = omega (arith, below, length-map (x ∷ xs) f) in
    rw (get_or-map f (x ∷ xs) i x d (omega arith), get_or-map f (x ∷ xs) j x d within) (pairs i j x before within)

-- what holds of all pairs of items, of all pairs of others, and of each of the first with each of the others
pub AllPairs-append : {X : Type 0} (R : X → X → Type 0) (xs ys : List X) → AllPairs R xs
    → AllPairs R ys → All (λ x. All (R x) ys) xs → AllPairs R (xs ++ ys)
AllPairs-append R [] ys first second across = second
AllPairs-append R (x ∷ xs) ys first second across =
    AllPairs-cons R x (xs ++ ys)
    (All-append (R x) xs ys (λ k d l. first 0 (suc k) d (omega arith) (omega (arith, l))) (All-head (λ x. All (R x) ys) x xs across))
    (AllPairs-append R xs ys (λ i j d before below. first (suc i) (suc j) d (omega (arith, before)) (omega (arith, below))) second
    (All-tail (λ x. All (R x) ys) x xs across))

-- ---- ranges

pub range_more : (a n j : ℕ) → a + n ≡ j → range_with_len a (n + 1) ≡ range_with_len a n ++ j ∷ []
range_more a n j e =
    sym (map_itself (range_with_len a (n + 1))) ∙ map-range_with_len_more (λ k. k) a n j e
    ∙ ap (λ xs. xs ++ j ∷ []) (map_itself (range_with_len a n))

pub flat_map-range_more : {X : Type 0} (f : ℕ → List X) (n : ℕ)
    → flat_map f (range_with_len 0 (n + 1)) ≡ flat_map f (range_with_len 0 n) ++ f n
flat_map-range_more f n =
    ap (flat_map f) (range_more 0 n n (omega arith)) ∙ flat_map-append f (range_with_len 0 n) (n ∷ [])
    ∙ ap (λ ys. flat_map f (range_with_len 0 n) ++ ys) (append-nil (f n))

-- what holds of all numbers from 1 to n holds of all images
pub All-from_one : {X : Type 0} (P : X → Type 0) (f : ℕ → X) (n : ℕ)
    → ((k : ℕ) → 1 ≤ k → k ≤ n → P (f k)) → All P (map f (range_with_len 1 n))
All-from_one P f n each i d below =
    let count = length-map-range_with_len f 1 n in
    let within : i < n = omega (arith, count) in
    subst P (sym (get_or-map-range_with_len f 1 n i (1 + i) d within (omega arith))) (each (1 + i) (omega arith) (omega arith))

-- ---- the first that passes a test

pub find_none : {X : Type 0} (p : X → Bool) (xs : List X) → All (λ x. p x ≡ false) xs
    → find p xs ≡ None
find_none p [] h = refl
find_none p (x ∷ xs) h =
    rw (All-head (λ x. p x ≡ false) x xs h) (find_none p xs (All-tail (λ x. p x ≡ false) x xs h))

pub find-map : {X Y : Type 0} (f : X → Y) (p : Y → Bool) (xs : List X)
    → find p (map f xs) ≡ option_map f (find (λ x. p (f x)) xs)
find-map f p [] = refl
find-map f p (x ∷ xs) =
    elim (cases_Bool (p (f x))) [ inl e ↦ rw e refl | inr e ↦ rw e (find-map f p xs) ]
