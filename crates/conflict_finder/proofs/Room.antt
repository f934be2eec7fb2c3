-- Listing as long as there is room.
use Rattle.std.proofs.Common.{◌≡◌, ℕ, zero, suc, ◌+◌, ◌-◌, ◌<◌, ◌≤◌, Bool, false, List, [], ◌∷◌, ◌++◌, length, get_or, take, drop, refl, sym, ap, ◌∙◌, arith, append_assoc, length-append}
use Rattle.std.specs.List.{take_while}
use Rattle.std.proofs.lemmas.List.{length-take, length-drop}
use Rattle.std.proofs.lemmas.List.Folds.{length-prefix_len}
use Rattle.std.proofs.lemmas.List.Sums.{prefix_len-le-length, prefix_len_is}
use Rattle.conflict_finder.specs.declared.run_uses.RunUse.{RunUse}

pub take_both : {X : Type 0} (n : ℕ) (xs ys : List X) → take n (xs ++ ys) ≡ take n xs ++ take (n - length xs) ys
take_both zero xs ys = let none : zero - length xs ≡ zero = omega arith in rw none refl
take_both (suc n) [] ys = let whole : suc n - zero ≡ suc n = omega arith in rw whole refl
take_both (suc n) (x ∷ xs) ys =
    let less : suc n - suc (length xs) ≡ n - length xs = omega arith in
    rw less (ap (λ zs. x ∷ zs) (take_both n xs ys))

-- more are listed as far as there is room for n
pub listed_next : {X : Type 0} (n : ℕ) (all more : List X) → take n all ++ take (n - length (take n all)) more ≡ take n (all ++ more)
listed_next n all more =
    let left : n - length (take n all) ≡ n - length all = omega (arith, length-take n all) in
    ap (λ k. take n all ++ take k more) left ∙ sym (take_both n all more)

-- the same beside what was listed before
pub listed_beside : {X : Type 0} (n : ℕ) (old all more : List X) → (old ++ take (n - length old) all) ++ take (n - length (old ++ take (n - length old) all)) more ≡ old ++ take (n - length old) (all ++ more)
listed_beside n old all more =
    let some = take (n - length old) all in
    let left : n - length (old ++ some) ≡ (n - length old) - length some = omega (arith, length-append old some) in
    append_assoc old some (take (n - length (old ++ some)) more)
    ∙ ap (λ k. old ++ (some ++ take k more)) left ∙ ap (λ v. old ++ v) (listed_next (n - length old) all more)

-- no more are listed than there is room for
pub listed_within : {X : Type 0} (n : ℕ) (old all : List X) → length old ≤ n → length (old ++ take (n - length old) all) ≤ n
listed_within n old all few = omega (arith, length-append old (take (n - length old) all), length-take (n - length old) all)

-- where the first of them doesn't meet one, none does before it
pub none_met : {X : Type 0} (p : X → Bool) (xs : List X) (d : X) → (0 < length xs → p (get_or xs 0 d) ≡ false) → take_while p xs ≡ []
none_met p xs d h = ap (λ n. take n xs) (prefix_len_is p xs 0 d (omega arith) (λ k lt. absurd (omega arith)) h)

-- no more meet one than there are
pub met_within : (p : RunUse → Bool) (run_uses : List RunUse) (i : ℕ) → length (take_while p (drop (i + 1) run_uses)) ≤ length run_uses
met_within p run_uses i =
    let rest = drop (i + 1) run_uses in
    omega (arith, length-prefix_len p rest, prefix_len-le-length p rest, length-drop (i + 1) run_uses)
