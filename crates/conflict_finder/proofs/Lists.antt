-- Lists that are made piece by piece, and pairs of their elements.
use Rattle.std.proofs.Common.{◌≡◌, ℕ, zero, suc, ◌+◌, ◌-◌, ◌<◌, ◌≤◌, ◌⊎◌, Bool, true, List, ◌++◌, length, map, get_or, refl, sym, ap, ◌∙◌, subst, inl, inr, arith, append-nil, append_assoc, length-append}
use Rattle.std.specs.List.{All, AllPairs, Contains, flat_map, range_with_len, prefix_len, swap}
use Rattle.std.specs.List.Sorted.{IsPermutation}
use Rattle.std.proofs.lemmas.Bool.{cases_lt, cases_eq}
use Rattle.std.proofs.lemmas.List.{get_or-map, length-map, get_or_append_left, get_or-append_right}
use Rattle.std.proofs.lemmas.List.Edits.{Swapped, swapped_from_swap, length-swap}
use Rattle.std.proofs.lemmas.List.Elements.{Contains-append_cases, Contains-append_left, Contains-append_right, Contains-get_or}
use Rattle.std.proofs.lemmas.List.Sorted.{IsPermutation-keeps}
use Rattle.std.proofs.lemmas.List.Sums.{prefix_len_stops}
use Rattle.rail_model.proofs.Lists.{flat_map-range_more, AllPairs-append}

-- ---- two lists, one after the other

module _ {X : Type 0} (P : X → Type 0) (xs ys : List X) (h : All P (xs ++ ys)) where
  pub all_left : All P xs
  all_left k d l = subst P (get_or_append_left xs ys d k l) (h k d (omega (arith, l, length-append xs ys)))

  pub all_right : All P ys
  all_right k d l =
      let n = length xs in
      let from : get_or (xs ++ ys) (n + k) d ≡ get_or ys k d =
      get_or-append_right xs ys n (n + k) d refl (omega arith) ∙ ap (λ j. get_or ys j d) (let e : (n + k) - n ≡ k = omega arith in e) in
      subst P from (h (n + k) d (omega (arith, l, length-append xs ys)))

-- ---- pieces for the numbers below n

-- pairs of two lists are pairs of one of them, or of both
pub AllPairs-both : {X : Type 0} (R : X → X → Type 0) (xs ys : List X) → AllPairs R xs → AllPairs R ys
    → ((x y : X) → Contains xs x → Contains ys y → R x y) → AllPairs R (xs ++ ys)
AllPairs-both R xs ys first second across =
    AllPairs-append R xs ys first second
    (λ i d l j e m. across (get_or xs i d) (get_or ys j e) (Contains-get_or xs i d l) (Contains-get_or ys j e m))

module _ {X : Type 0} (f : ℕ → List X) where
  pub upto : ℕ → List X
  upto n = flat_map f (range_with_len 0 n)

  pub upto_is : (n : ℕ) → upto n ≡ flat_map f (range_with_len 0 n)
  unfolding upto
  upto_is n = refl

  pub upto_suc : (n : ℕ) → upto (suc n) ≡ upto n ++ f n
  unfolding upto
  upto_suc n = let e : n + 1 ≡ suc n = omega arith in subst (λ m. flat_map f (range_with_len 0 m) ≡ flat_map f (range_with_len 0 n) ++ f n) e (flat_map-range_more f n)

  -- the pieces of a + b numbers are those of a, and then those of b more
  pub upto_plus : (a b : ℕ) → upto (a + b) ≡ upto a ++ flat_map (λ k. f (a + k)) (range_with_len 0 b)
  upto_plus a zero = let none : a + 0 ≡ a = omega arith in rw none (sym (append-nil (upto a)))
  upto_plus a (suc b) =
      let more : a + suc b ≡ suc (a + b) = omega arith in
      let last : b + 1 ≡ suc b = omega arith in
      let next : flat_map (λ k. f (a + k)) (range_with_len 0 (b + 1)) ≡ flat_map (λ k. f (a + k)) (range_with_len 0 b) ++ f (a + b) = flat_map-range_more (λ k. f (a + k)) b in
      ap upto more ∙ upto_suc (a + b) ∙ ap (λ v. v ++ f (a + b)) (upto_plus a b)
      ∙ append_assoc (upto a) (flat_map (λ k. f (a + k)) (range_with_len 0 b)) (f (a + b))
      ∙ ap (λ v. upto a ++ v) (sym next) ∙ ap (λ m. upto a ++ flat_map (λ k. f (a + k)) (range_with_len 0 m)) last

  -- pieces that are the same one by one
  pub upto_same : (g : ℕ → List X) (n : ℕ) → ((k : ℕ) → k < n → f k ≡ g k) → flat_map f (range_with_len 0 n) ≡ flat_map g (range_with_len 0 n)
  upto_same g zero h = refl
  upto_same g (suc n) h =
      let e : n + 1 ≡ suc n = omega arith in
      subst (λ m. flat_map f (range_with_len 0 m) ≡ flat_map g (range_with_len 0 m)) e (
      flat_map-range_more f n ∙ ap (λ v. v ++ f n) (upto_same g n (λ k l. h k (omega arith)))
      ∙ ap (λ v. flat_map g (range_with_len 0 n) ++ v) (h n (omega arith)) ∙ sym (flat_map-range_more g n))

  -- what is in a piece is in the whole, and the other way round
  pub in_upto : (n k : ℕ) (x : X) → k < n → Contains (f k) x → Contains (upto n) x
  in_upto zero k x l h = absurd (omega arith)
  in_upto (suc n) k x l h =
      rw (upto_suc n) (elim (cases_eq k n) [
        | inl e ↦ Contains-append_right (upto n) (f n) x (subst (λ m. Contains (f m) x) e h)
        | inr d ↦ Contains-append_left (upto n) (f n) x (in_upto n k x (omega arith) h)
      ])

  pub from_upto : (n : ℕ) (x : X) → Contains (upto n) x → (k : ℕ) × (k < n) × Contains (f k) x
  unfolding upto
  from_upto zero x h = absurd (let l : h.0 < 0 = h.1 in omega arith)
  from_upto (suc n) x h =
      elim (Contains-append_cases (upto n) (f n) x (rw (upto_suc n) at h)) [
        | inl c ↦ let r = from_upto n x c in (r.0, omega (arith, r.1), r.2)
        | inr c ↦ (n, omega arith, c)
      ]

  -- pairs of the whole are pairs of one piece, or of an earlier and a later one
  pub AllPairs-upto : (R : X → X → Type 0) (n : ℕ) → ((k : ℕ) → k < n → AllPairs R (f k)) → ((k m : ℕ) (x y : X) → k < m → m < n → Contains (f k) x → Contains (f m) y → R x y) → AllPairs R (upto n)
  unfolding upto
  AllPairs-upto R zero within across = λ i j d lt l. absurd (let none : j < 0 = l in omega arith)
  AllPairs-upto R (suc n) within across =
      rw (upto_suc n) (AllPairs-both R (upto n) (f n)
      (AllPairs-upto R n (λ k l. within k (omega arith)) (λ k m x y lt l. across k m x y lt (omega arith)))
      (within n (omega arith))
      (λ x y a b. let r = from_upto n x a in across r.0 n x y r.1 (omega arith) r.2 b))

-- ---- a map

pub in_map : {X Y : Type 0} (f : X → Y) (xs : List X) (x : X) → Contains xs x → Contains (map f xs) (f x)
in_map f xs x h =
    let long : length (map f xs) ≡ length xs = length-map xs f in
    (h.0, omega (arith, h.1), get_or-map f xs h.0 x (f x) h.1 ∙ ap f h.2)

pub from_map : {X Y : Type 0} (f : X → Y) (xs : List X) (y : Y) → Contains (map f xs) y → (i : ℕ) × (i < length xs) × ((d : X) → y ≡ f (get_or xs i d))
from_map f xs y h =
    let long : length (map f xs) ≡ length xs = length-map xs f in
    let l : h.0 < length xs = omega (arith, h.1) in
    (h.0, l, λ d. sym h.2 ∙ get_or-map f xs h.0 d y l)

-- ---- what passes a test at the start

pub before_stop : {X : Type 0} (p : X → Bool) (xs : List X) (j : ℕ) (d : X) → j < length xs → ((k : ℕ) → k ≤ j → p (get_or xs k d) ≡ true) → j < prefix_len p xs
before_stop p xs j d l h =
    elim (cases_lt j (prefix_len p xs)) [
      | inl lt ↦ lt
      | inr le ↦ absurd (
          let stop = prefix_len_stops p xs d (omega (arith, l, le)) in
          let pass = h (prefix_len p xs) le in
          (cc))
    ]

-- ---- another order

-- each two elements at different places
pub Apart : {X : Type 0} → (X → X → Type 0) → List X → Type 0
Apart {X} R xs = (i j : ℕ) (d : X) → i < length xs → j < length xs → (i ≡ j → ⊥) → R (get_or xs i d) (get_or xs j d)

pub apart_at : {X : Type 0} (R : X → X → Type 0) (xs : List X) → Apart R xs → (i j : ℕ) (d : X) → i < length xs → j < length xs → (i ≡ j → ⊥) → R (get_or xs i d) (get_or xs j d)
unfolding Apart
apart_at R xs h = h

pub apart_from_pairs : {X : Type 0} (R : X → X → Type 0) → ((a b : X) → R a b → R b a) → (xs : List X) → AllPairs R xs → Apart R xs
unfolding Apart
apart_from_pairs R turn xs h i j d l m ne =
    elim (cases_lt i j) [
      | inl lt ↦ h i j d lt m
      | inr le ↦ turn (get_or xs j d) (get_or xs i d) (h j i d (let lt : j < i = omega (arith, ne) in lt) l)
    ]

-- where the element at k stood before a and b were swapped
StoodAt : (a b k m : ℕ) → Type 0
StoodAt a b k m = ((k ≡ a) × (m ≡ b)) ⊎ (((k ≡ b) × (m ≡ a)) ⊎ ((k ≡ a → ⊥) × (k ≡ b → ⊥) × (m ≡ k)))

stood_at : (a b k : ℕ) → (m : ℕ) × StoodAt a b k m
unfolding StoodAt
stood_at a b k =
    elim (cases_eq k a) [
      | inl e ↦ (b, inl (e, refl))
      | inr ne ↦ elim (cases_eq k b) [
        | inl e ↦ (a, inr (inl (e, refl)))
        | inr nf ↦ (k, inr (inr (ne, nf, refl)))
      ]
    ]

read_before : {X : Type 0} (f g : ℕ → X) (a b k m : ℕ) → Swapped f g a b → StoodAt a b k m → g k ≡ f m
unfolding StoodAt
read_before f g a b k m moved at =
    elim at [
      | inl e ↦ ap g e.0 ∙ moved.0 ∙ ap f (sym e.1)
      | inr o ↦ elim o [
        | inl e ↦ ap g e.0 ∙ moved.1 ∙ ap f (sym e.1)
        | inr e ↦ moved.2 k e.0 e.1 ∙ ap f (sym e.2)
      ]
    ]

stood_within : (a b k m n : ℕ) → a < n → b < n → k < n → StoodAt a b k m → m < n
unfolding StoodAt
stood_within a b k m n la lb lk at =
    elim at [ inl e ↦ omega (arith, e.1) | inr o ↦ elim o [ inl e ↦ omega (arith, e.1) | inr e ↦ omega (arith, e.2) ] ]

stood_apart : (a b i j m n : ℕ) → (i ≡ j → ⊥) → StoodAt a b i m → StoodAt a b j n → m ≡ n → ⊥
unfolding StoodAt
stood_apart a b i j m n ne at bt e =
    elim at [
      | inl p ↦ elim bt [ inl q ↦ omega (arith, p.0, q.0) | inr o ↦ elim o [ inl q ↦ omega (arith, p.0, p.1, q.0, q.1) | inr q ↦ omega (arith, q.1, q.2, p.1) ] ]
      | inr o ↦ elim o [
        | inl p ↦ elim bt [ inl q ↦ omega (arith, p.0, p.1, q.0, q.1) | inr u ↦ elim u [ inl q ↦ omega (arith, p.0, q.0) | inr q ↦ omega (arith, q.0, q.2, p.1) ] ]
        | inr p ↦ elim bt [ inl q ↦ omega (arith, p.1, p.2, q.1) | inr u ↦ elim u [ inl q ↦ omega (arith, p.0, p.2, q.1) | inr q ↦ omega (arith, p.2, q.2) ] ]
      ]
    ]

Apart-swap : {X : Type 0} (R : X → X → Type 0) → (xs : List X) (a b : ℕ) → a < length xs → b < length xs → Apart R xs → Apart R (swap xs a b)
unfolding Apart
Apart-swap R xs a b la lb h i j d l m ne =
    let long : length (swap xs a b) ≡ length xs = length-swap xs a b in
    let moved = swapped_from_swap xs (swap xs a b) a b d la lb refl in
    let x = stood_at a b i in
    let y = stood_at a b j in
    rw (read_before (λ k. get_or xs k d) (λ k. get_or (swap xs a b) k d) a b i x.0 moved x.1, read_before (λ k. get_or xs k d) (λ k. get_or (swap xs a b) k d) a b j y.0 moved y.1)
    (h x.0 y.0 d (stood_within a b i x.0 (length xs) la lb (omega arith) x.1) (stood_within a b j y.0 (length xs) la lb (omega arith) y.1) (stood_apart a b i j x.0 y.0 ne x.1 y.1))

pub Apart-permutation : {X : Type 0} (R : X → X → Type 0) → (xs ys : List X) → Apart R xs → IsPermutation xs ys → Apart R ys
Apart-permutation R xs ys h moved = IsPermutation-keeps xs (Apart R) h (λ l i j li lj k. Apart-swap R l i j li lj k) ys moved
