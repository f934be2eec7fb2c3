-- The pairs of words that give delays, and what they give.
use Rattle.std.proofs.Common.{◌≡◌, ℕ, ◌-◌, ◌<◌, ◌≤◌, zero, suc, Bool, true, false, List, [], ◌∷◌, ◌++◌, length, take, drop, get_or, map, Option, None, Some, refl, sym, ap, subst, ◌∙◌, arith}
use Rattle.std.specs.Prelude.{◌/◌, ◌&&◌, not, is_some, option_map}
use Rattle.std.specs.List.{range_with_len}
use Rattle.std.proofs.lemmas.List.{take_all, length-map, get_or-map}
use Rattle.std.proofs.lemmas.List.FromFn.{length-range_with_len, get_or-range_with_len}
use Rattle.capacity_cmd.specs.Command.{seconds_of, is_among_runs, are_pairs, pair_at, all_of, delays_of}

-- ---- words that are pairs

-- the words after the first two
abbrev pub rest : {X : Type 0} → List X → List X
rest words = take (length words - 2) (drop 2 words)

pairs_more : {X : Type 0} (f : X → List ℕ) (words : List X) (run delay : X) → 2 ≤ length words → run ≡ get_or words 0 run
    → delay ≡ get_or words 1 delay
    → are_pairs (map f words)
    ≡ (is_some (seconds_of (f delay)) && not (is_among_runs (f run) (map f (rest words))) && are_pairs (map f (rest words)))
pairs_more f [] run delay two first second = absurd (omega (arith, two))
pairs_more f (word ∷ []) run delay two first second = absurd (omega (arith, two))
pairs_more f (word ∷ other ∷ more) run delay two first second =
    let all : rest (word ∷ other ∷ more) ≡ more = take_all _ more (omega arith) in
    rw (first, second, all) refl

none_of_these : (b p : Bool) → (b && not true && p) ≡ false
none_of_these true p = refl
none_of_these false p = refl

-- a run's word comes twice
pub run_twice : {X : Type 0} (f : X → List ℕ) (words : List X) (run delay : X) → 2 ≤ length words → run ≡ get_or words 0 run
    → delay ≡ get_or words 1 delay → is_among_runs (f run) (map f (rest words)) ≡ true → false ≡ are_pairs (map f words)
run_twice f words run delay two first second among =
    sym (pairs_more f words run delay two first second ∙ rw among (none_of_these _ _))

pub no_pair : {X : Type 0} (f : X → List ℕ) (words : List X) → 1 ≤ length words → length words < 2 → false ≡ are_pairs (map f words)
no_pair f [] some few = absurd (omega (arith, some))
no_pair f (word ∷ []) some few = refl
no_pair f (word ∷ other ∷ more) some few = absurd (omega (arith, few))

-- after a pair the rest decides
pub by_rest : {X : Type 0} (f : X → List ℕ) (words : List X) (run delay : X) → 2 ≤ length words → run ≡ get_or words 0 run
    → delay ≡ get_or words 1 delay → is_some (seconds_of (f delay)) ≡ true → is_among_runs (f run) (map f (rest words)) ≡ false
    → are_pairs (map f (rest words)) ≡ are_pairs (map f words)
by_rest f words run delay two first second says among = sym (pairs_more f words run delay two first second ∙ rw (says, among) refl)

-- ---- what they give

swap : {X : Type 0} (y x : X) (given : Option (List X))
    → option_map (λ xs. y ∷ xs) (option_map (λ xs. xs ++ x ∷ []) given) ≡ option_map (λ xs. xs ++ x ∷ []) (option_map (λ xs. y ∷ xs) given)
swap y x None = refl
swap y x (Some xs) = refl

all_of_push : {X : Type 0} (os : List (Option X)) (x : X) → all_of (os ++ Some x ∷ []) ≡ option_map (λ xs. xs ++ x ∷ []) (all_of os)
all_of_push [] x = refl
all_of_push (None ∷ os) x = refl
all_of_push (Some y ∷ os) x = ap (option_map (λ xs. y ∷ xs)) (all_of_push os x) ∙ swap y x (all_of os)

-- one value more
pub all_of_more : {X : Type 0} (os : List (Option X)) (o : Option X) (x : X) (xs : List X) → Some xs ≡ all_of os → o ≡ Some x
    → Some (xs ++ x ∷ []) ≡ all_of (os ++ o ∷ [])
all_of_more os o x xs so_far is =
    ap (option_map (λ ys. ys ++ x ∷ [])) so_far ∙ sym (all_of_push os x) ∙ ap (λ p. all_of (os ++ p ∷ [])) (sym is)

-- one without a value
pub all_of_none : {X : Type 0} (os : List (Option X)) (i : ℕ) → i < length os → get_or os i None ≡ None → all_of os ≡ None
all_of_none [] i there is = absurd (omega (arith, there))
all_of_none (None ∷ os) i there is = refl
all_of_none (Some x ∷ os) zero there is = absurd (cc)
all_of_none (Some x ∷ os) (suc i) there is = ap (option_map (λ xs. x ∷ xs)) (all_of_none os i (omega (arith, there)) is)

pub nothing_given : {X : Type 0} (f : X → List ℕ) (words : List X) (k : ℕ) → k < length words / 2 → pair_at (map f words) k ≡ None
    → delays_of (map f words) ≡ None
nothing_given f words k there is =
    let n = length (map f words) / 2 in
    let inside : k < n = subst (λ l. k < l / 2) (sym (length-map words f)) there in
    let F = pair_at (map f words) in
    let at : get_or (range_with_len 0 n) k 0 ≡ k = omega (arith, get_or-range_with_len 0 n k 0 inside) in
    all_of_none (map F (range_with_len 0 n)) k
    (omega (arith, inside, length-map (range_with_len 0 n) F, length-range_with_len 0 n))
    (get_or-map F (range_with_len 0 n) k 0 None (omega (arith, inside, length-range_with_len 0 n))
    ∙ ap F at ∙ is)
