-- How many items pass a test: none, one of a name, and two of two names.
use Rattle.std.proofs.Common.{◌≡◌, ℕ, suc, ◌+◌, Bool, true, false, cond, ◌&&◌, ◌||◌, List, [], ◌∷◌, get_or, refl, sym, ap, ◌∙◌, subst, inl, inr, arith}
use Rattle.std.specs.Prelude.{All, count_by}
use Rattle.std.specs.List.{list_any}
use Rattle.std.proofs.lemmas.Bool.{cases_Bool, both_ways}
use Rattle.std.proofs.lemmas.List.Elements.{All-head, All-tail}
use Rattle.std.proofs.lemmas.List.Sums.{sum_by-cons}
use Rattle.rail_model.specs.Name.{NamesRise, is_same}
use Rattle.rail_model.proofs.NameOrder.{same_name, is_same-before, is_same-from}

module _ {X : Type 0} where
  count_next : (p : X → Bool) (x : X) (xs : List X) (b : Bool) → p x ≡ b → count_by p (x ∷ xs) ≡ cond b 1 0 + count_by p xs
  count_next p x xs b e = sum_by-cons (λ y. cond (p y) 1 0) x xs ∙ ap (λ c. cond c 1 0 + count_by p xs) e

  -- two tests that agree at each item
  pub count_agree : (p q : X → Bool) (xs : List X) → All (λ x. p x ≡ q x) xs → count_by p xs ≡ count_by q xs
  count_agree p q [] h = refl
  count_agree p q (x ∷ xs) h =
      count_next p x xs (q x) (All-head (λ x. p x ≡ q x) x xs h)
      ∙ ap (λ n. cond (q x) 1 0 + n) (count_agree p q xs (All-tail (λ x. p x ≡ q x) x xs h))
      ∙ sym (count_next q x xs (q x) refl)

  pub count_none : (p : X → Bool) (xs : List X) → All (λ x. p x ≡ false) xs → count_by p xs ≡ 0
  count_none p [] h = refl
  count_none p (x ∷ xs) h =
      let rest = count_none p xs (All-tail (λ x. p x ≡ false) x xs h) in
      omega (arith, count_next p x xs false (All-head (λ x. p x ≡ false) x xs h), rest)

  -- what passes one of two tests, where no item passes both
  count_either : (p q : X → Bool) (xs : List X) → All (λ x. (p x && q x) ≡ false) xs
      → count_by (λ x. p x || q x) xs ≡ count_by p xs + count_by q xs
  count_either p q [] h = refl
  count_either p q (x ∷ xs) h =
      let rest = count_either p q xs (All-tail (λ x. (p x && q x) ≡ false) x xs h) in
      let apart = All-head (λ x. (p x && q x) ≡ false) x xs h in
      elim (cases_Bool (p x)) [
        | inl e ↦
            let not_q : q x ≡ false = rw e at apart in
            let one = count_next (λ y. p y || q y) x xs true (rw e refl) in
            omega (arith, one, rest, count_next p x xs true e, count_next q x xs false not_q)
        | inr e ↦ elim (cases_Bool (q x)) [
          | inl g ↦
              let one = count_next (λ y. p y || q y) x xs true (rw (e, g) refl) in
              omega (arith, one, rest, count_next p x xs false e, count_next q x xs true g)
          | inr g ↦
              let one = count_next (λ y. p y || q y) x xs false (rw (e, g) refl) in
              omega (arith, one, rest, count_next p x xs false e, count_next q x xs false g)
        ]
      ]

  module _ (name : X → List ℕ) where
    -- a name that is there is one item's
    count_one : (a : List ℕ) (xs : List X) → NamesRise name xs → list_any (λ x. is_same a (name x)) xs ≡ true
        → count_by (λ x. is_same a (name x)) xs ≡ 1
    count_one a [] rise there = absurd (cc)
    count_one a (x ∷ xs) rise there =
        let test : X → Bool = λ y. is_same a (name y) in
        elim (cases_Bool (is_same a (name x))) [
          | inl e ↦
              let none = count_none test xs
              (λ k d l. subst (λ m. is_same m (name (get_or xs k d)) ≡ false) (sym (same_name a (name x) e))
              (is_same-before (name x) (name (get_or xs k d)) (rise 0 (suc k) d (omega arith) (omega (arith, l))))) in
              omega (arith, count_next test x xs true e, none)
          | inr e ↦
              let rest = count_one a xs (λ i j d before below. rise (suc i) (suc j) d (omega (arith, before)) (omega (arith, below))) (rw e at there) in
              omega (arith, count_next test x xs false e, rest)
        ]

    -- two names that are there are two items'
    pub count_two : (a b : List ℕ) (xs : List X) → NamesRise name xs → is_same a b ≡ false
        → list_any (λ x. is_same a (name x)) xs ≡ true → list_any (λ x. is_same b (name x)) xs ≡ true
        → count_by (λ x. is_same a (name x) || is_same b (name x)) xs ≡ 2
    count_two a b xs rise differ first second =
        let apart : All (λ x. (is_same a (name x) && is_same b (name x)) ≡ false) xs =
        λ k d l.
        let n = name (get_or xs k d) in
        elim (cases_Bool (is_same a n)) [
          | inl e ↦ elim (cases_Bool (is_same b n)) [
            | inl g ↦ absurd (both_ways (is_same a b) differ (is_same-from a b (same_name a n e ∙ sym (same_name b n g))))
            | inr g ↦ rw (e, g) refl
          ]
          | inr e ↦ rw e refl
        ] in
        omega (arith, count_either (λ x. is_same a (name x)) (λ x. is_same b (name x)) xs apart, count_one a xs rise first, count_one b xs rise second)
