-- Numbers that rise: how many of them lie below a number, and the greatest of some of them.
use Rattle.std.proofs.Common.{◌≡◌, ℕ, zero, suc, ◌+◌, ◌-◌, ◌<◌, ◌≤◌, cond, ltb, count_by, ap, ◌∙◌, zero-add, arith}
use Rattle.std.specs.List.{range_with_len}
use Rattle.std.proofs.lemmas.List.Sums.{sum_by-cons}
use Rattle.std.proofs.lemmas.Bool.{lt-ltb, le-ltb}

one_more : (j : ℕ) → 1 + j ≡ suc j
one_more j = omega arith

-- the first j of n numbers lie below x, and all others do not
pub count_below : (f : ℕ → ℕ) (x n a j : ℕ) → j ≤ n → ((i : ℕ) → a ≤ i → i < a + j → f i < x) → ((i : ℕ) → a + j ≤ i → i < a + n → x ≤ f i) → count_by (λ k. ltb (f k) x) (range_with_len a n) ≡ j
count_below f x zero a j within low high = omega arith
count_below f x (suc n) a zero within low high =
    let here : x ≤ f a = high a (omega arith) (omega arith) in
    let rest = count_below f x n (a + 1) 0 (omega arith) (λ i p q. absurd (omega arith)) (λ i p q. high i (omega arith) (omega arith)) in
    sum_by-cons (λ k. cond (ltb (f k) x) 1 0) a (range_with_len (a + 1) n) ∙ ap (λ b. cond b 1 0 + count_by (λ k. ltb (f k) x) (range_with_len (a + 1) n)) (le-ltb (f a) x here) ∙ zero-add _ ∙ rest
count_below f x (suc n) a (suc j) within low high =
    let here : f a < x = low a (omega arith) (omega arith) in
    let rest = count_below f x n (a + 1) j (omega arith) (λ i p q. low i (omega arith) (omega arith)) (λ i p q. high i (omega arith) (omega arith)) in
    sum_by-cons (λ k. cond (ltb (f k) x) 1 0) a (range_with_len (a + 1) n) ∙ ap (λ b. cond b 1 0 + count_by (λ k. ltb (f k) x) (range_with_len (a + 1) n)) (lt-ltb (f a) x here) ∙ ap (λ m. 1 + m) rest ∙ one_more j

-- numbers that do not fall from one to the next do not fall over any distance
pub rising_by : (f : ℕ → ℕ) (n : ℕ) → ((k : ℕ) → k < n → f k ≤ f (k + 1)) → (i d : ℕ) → i + d ≤ n → f i ≤ f (i + d)
rising_by f n step i zero within =
    let same : i + 0 ≡ i = omega arith in
    let end : f (i + 0) ≡ f i = ap f same in
    omega arith
rising_by f n step i (suc d) within =
    let before : f i ≤ f (i + d) = rising_by f n step i d (omega arith) in
    let more : f (i + d) ≤ f (i + d + 1) = step (i + d) (omega arith) in
    let next : i + d + 1 ≡ i + suc d = omega arith in
    let same : f (i + d + 1) ≡ f (i + suc d) = ap f next in
    omega arith

pub rising : (f : ℕ → ℕ) (n : ℕ) → ((k : ℕ) → k < n → f k ≤ f (k + 1)) → (i j : ℕ) → i ≤ j → j ≤ n → f i ≤ f j
rising f n step i j below within =
    let far : f i ≤ f (i + (j - i)) = rising_by f n step i (j - i) (omega arith) in
    let there : i + (j - i) ≡ j = omega arith in
    let same : f (i + (j - i)) ≡ f j = ap f there in
    omega arith
