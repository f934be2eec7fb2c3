-- Numbers that lead round from the first over the others back to the first: turned back, and told from the least on.
use Rattle.std.proofs.Common.{◌≡◌, ◌≢◌, ℕ, suc, ◌<◌, ◌≤◌, eqb, true, false, ◌==◌, List, [], ◌∷◌, ◌++◌, length, get_or, inl, inr, refl, sym, ◌∙◌, subst, arith}
use Rattle.std.specs.Prelude.{All, AllPairs, reverse, nat_le, slice_index}
use Rattle.std.specs.List.{list_any, list_all}
use Rattle.std.specs.List.Sorted.{IsPermutation}
use Rattle.std.proofs.lemmas.Bool.{cases_Bool, cases_lt, or_left, or_right, eqb-true, eqb-false, eq-eqb, ne_eqb, le-leb, leb-true}
use Rattle.std.proofs.lemmas.Bool.Decides.{Decides-eqb}
use Rattle.std.proofs.lemmas.List.{append-nil, reverse-append}
use Rattle.std.proofs.lemmas.List.Elements.{All-nil, All-cons, All-weaker}
use Rattle.std.proofs.lemmas.List.Folds.{Any-from_list_any}
use Rattle.std.proofs.lemmas.List.Sorted.{All-permutation, IsPermutation-append_comm, IsPermutation-reverse}
use Rattle.std.proofs.lemmas.List.Sums.{AllPass-from_list_all, list_all-from_AllPass}
use Rattle.std.proofs.lemmas.Map.Keys.{IsDistinct-IsPermutation}
use Rattle.std.proofs.lemmas.Map.Made.{AllPairs-from_IsDistinct, IsDistinct-from_AllPairs}
use Rattle.std.proofs.lemmas.Map.Steps.{length-le_from_distinct_below}
use Rattle.plan_model.specs.Disorder.{from_least}
use Rattle.plan_model.proofs.MemberTests.{has, has_any}
use Rattle.plan_model.proofs.Parts.{split_at}

-- ---- chains

module _ (R : ℕ → ℕ → Type 0) where
  -- from x over these to y, each is in the relation to the next
  abbrev pub Leads : ℕ → List ℕ → ℕ → Type 0
  Leads x [] y = R x y
  Leads x (a ∷ vs) y = R x a × Leads a vs y

  leads_split : (x : ℕ) (vs : List ℕ) (b : ℕ) (ws : List ℕ) (y : ℕ) → Leads x (vs ++ b ∷ ws) y → Leads x vs b × Leads b ws y
  leads_split x [] b ws y h = h
  leads_split x (a ∷ vs) b ws y h = let rest = leads_split a vs b ws y h.1 in ((h.0, rest.0), rest.1)

  leads_join : (x : ℕ) (vs : List ℕ) (b : ℕ) (ws : List ℕ) (y : ℕ) → Leads x vs b → Leads b ws y → Leads x (vs ++ b ∷ ws) y
  leads_join x [] b ws y h k = (h, k)
  leads_join x (a ∷ vs) b ws y h k = (h.0, leads_join a vs b ws y h.1 k)

  -- from the first of some over the others to y, where there are some
  abbrev pub LeadsTo : List ℕ → ℕ → Type 0
  LeadsTo [] y = Unit {0}
  LeadsTo (x ∷ xs) y = Leads x xs y

  pub leads_more : (xs : List ℕ) (y z : ℕ) → LeadsTo xs y → R y z → LeadsTo (xs ++ y ∷ []) z
  leads_more [] y z h k = k
  leads_more (x ∷ xs) y z h k = leads_join x xs y [] z h k

  pub leads_last : (xs : List ℕ) (b : ℕ) (ws : List ℕ) (y : ℕ) → LeadsTo (xs ++ b ∷ ws) y → Leads b ws y
  leads_last [] b ws y h = h
  leads_last (x ∷ xs) b ws y h = (leads_split x xs b ws y h).1

  -- round: from the first over the others back to the first
  abbrev pub Round : List ℕ → Type 0
  Round [] = ⊥
  Round (x ∷ xs) = Leads x xs x

  turned : (xs ys : List ℕ) → Round (xs ++ ys) → Round (ys ++ xs)
  turned [] ys h = subst Round (sym (append-nil ys)) h
  turned (x ∷ xs) [] h = subst Round (append-nil (x ∷ xs)) h
  turned (x ∷ xs) (y ∷ ys) h = let parts = leads_split x xs y ys x h in leads_join y ys x xs y parts.1 parts.0

leads_back : (R : ℕ → ℕ → Type 0) (x : ℕ) (vs : List ℕ) (y : ℕ) → Leads R x vs y → Leads (λ a b. R b a) y (reverse vs) x
leads_back R x [] y h = h
leads_back R x (a ∷ vs) y h =
    subst (λ xs. Leads (λ a b. R b a) y xs x) (sym (reverse-append (a ∷ []) vs))
    (leads_join (λ a b. R b a) y (reverse vs) a [] x (leads_back R a vs y h.1) h.0)

round_back : (R : ℕ → ℕ → Type 0) (xs : List ℕ) → Round R xs → Round (λ a b. R b a) (reverse xs)
round_back R [] h = absurd h
round_back R (x ∷ xs) h =
    subst (Round (λ a b. R b a)) (sym (reverse-append (x ∷ []) xs))
    (turned (λ a b. R b a) (x ∷ []) (reverse xs) (leads_back R x xs x h))

-- ---- lists in which none comes twice

abbrev pub Once : List ℕ → Type 0
Once xs = AllPairs (λ i j. i ≢ j) xs

pub once_last : (xs ys : List ℕ) → Once (xs ++ ys) → Once ys
once_last [] ys h = h
once_last (x ∷ xs) ys h =
    once_last xs ys (λ i j d before below. h (suc i) (suc j) d (omega (arith, before)) (omega (arith, below)))

eqb_flips : (x y : ℕ) → eqb x y ≡ eqb y x
eqb_flips x y =
    elim (cases_Bool (eqb x y)) [
      | inl e ↦ e ∙ sym (eq-eqb y x (sym (eqb-true x y e)))
      | inr e ↦ e ∙ sym (ne_eqb y x (λ s. eqb-false x y e (sym s)))
    ]

once_permuted : (xs ys : List ℕ) → IsPermutation xs ys → Once xs → Once ys
once_permuted xs ys same h =
    AllPairs-from_IsDistinct Decides-eqb ys
    (IsDistinct-IsPermutation eqb eqb_flips xs ys same (IsDistinct-from_AllPairs Decides-eqb xs h))

pub once_short : (xs : List ℕ) (n : ℕ) → Once xs → All (λ i. i < n) xs → length xs ≤ n
once_short xs n once below =
    length-le_from_distinct_below xs n (IsDistinct-from_AllPairs Decides-eqb xs once)
    (λ q h.
    let at = Any-from_list_any (eqb q) xs h in
    omega (arith, eqb-true q at.1 at.4, at.3, below at.0 at.1 at.2))

-- ---- from the least on

least_of : (x : ℕ) (xs : List ℕ) → (m : ℕ) × (has (x ∷ xs) m ≡ true) × All (λ i. m ≤ i) (x ∷ xs)
least_of x [] = (x, or_left (x == x) false (eq-eqb x x refl), All-cons (λ i. x ≤ i) x [] (omega arith) (All-nil (λ i. x ≤ i)))
least_of x (y ∷ ys) =
    let (m, there, least) = least_of y ys in
    elim (cases_lt x m) [
      | inl less ↦ (
        x,
        or_left (x == x) (has (y ∷ ys) x) (eq-eqb x x refl),
        All-cons (λ i. x ≤ i) x (y ∷ ys) (omega arith)
            (All-weaker (λ i. m ≤ i) (λ i. x ≤ i) (λ i l. omega (arith, l, less)) (y ∷ ys) least),
      )
      | inr rest ↦ (m, or_right (x == m) (has (y ∷ ys) m) there, All-cons (λ i. m ≤ i) x (y ∷ ys) rest least)
    ]

has_least : (R : ℕ → ℕ → Type 0) (xs : List ℕ) → Round R xs → list_any (λ m. list_all (nat_le m) xs) xs ≡ true
has_least R [] h = absurd h
has_least R (x ∷ xs) h =
    let (m, there, least) = least_of x xs in
    has_any (λ m. list_all (nat_le m) (x ∷ xs)) (x ∷ xs) m there
    (list_all-from_AllPass (nat_le m) (x ∷ xs) (λ k d l. le-leb m (get_or (x ∷ xs) k d) (least k d l)))

-- members that follow one another round, each once
pub record IsGood (R : ℕ → ℕ → Type 0) (n : ℕ) (xs : List ℕ) : Type 0 where
  pub round : Round R xs
  pub there : All (λ i. i < n) xs
  pub once : Once xs

pub good_back : (R : ℕ → ℕ → Type 0) (n : ℕ) (xs : List ℕ) → IsGood R n xs → IsGood (λ a b. R b a) n (reverse xs)
good_back R n xs h = record {
  round = round_back R xs h.round;
  there = All-permutation (λ i. i < n) xs (reverse xs) (IsPermutation-reverse xs) h.there;
  once = once_permuted xs (reverse xs) (IsPermutation-reverse xs) h.once;
}

good_turned : (R : ℕ → ℕ → Type 0) (n : ℕ) (xs ys : List ℕ) → IsGood R n (xs ++ ys) → IsGood R n (ys ++ xs)
good_turned R n xs ys h = record {
  round = turned R xs ys h.round;
  there = All-permutation (λ i. i < n) (xs ++ ys) (ys ++ xs) (IsPermutation-append_comm xs ys) h.there;
  once = once_permuted (xs ++ ys) (ys ++ xs) (IsPermutation-append_comm xs ys) h.once;
}

pub least_first : (R : ℕ → ℕ → Type 0) (n : ℕ) (xs : List ℕ) → IsGood R n xs
    → IsGood R n (from_least xs) × All (λ i. slice_index (from_least xs) 0 ≤ i) (from_least xs)
least_first R n xs h =
    let s = split_at (λ m. list_all (nat_le m) xs) xs (has_least R xs h.round) in
    let ys = (s.first ∷ s.after) ++ s.before in
    let is : from_least xs ≡ ys = λ i. s.dropped i ++ s.taken i in
    let pass = AllPass-from_list_all (nat_le s.first) xs s.passes in
    let least : All (λ i. s.first ≤ i) xs = λ k d l. leb-true s.first (get_or xs k d) (pass k d l) in
    subst (λ ys. IsGood R n ys × All (λ i. slice_index ys 0 ≤ i) ys) (sym is) (
      good_turned R n s.before (s.first ∷ s.after) (subst (IsGood R n) s.is h),
      All-permutation (λ i. s.first ≤ i) (s.before ++ s.first ∷ s.after) ys
          (IsPermutation-append_comm s.before (s.first ∷ s.after)) (subst (All (λ i. s.first ≤ i)) s.is least),
    )
