-- What a search finds: in any list, in ranges, and in lists that are gathered over them.
use Rattle.std.proofs.Common.{◌≡◌, ℕ, zero, suc, ◌+◌, ◌<◌, ◌≤◌, Bool, true, false, ◌&&◌, ◌==◌, List, [], ◌∷◌, length, take, drop, get_or, inl, inr, refl, sym, ap, subst, ◌∙◌, arith}
use Rattle.std.specs.Prelude.{Some, None, filter, find}
use Rattle.std.specs.Option.{option_or}
use Rattle.std.specs.List.{flat_map, list_any, range_with_len, All}
use Rattle.std.proofs.lemmas.Bool.{cases_Bool, cases_eq, eq-eqb, or_left, or_right}
use Rattle.std.proofs.lemmas.List.Elements.{All-head, All-tail}
use Rattle.std.proofs.lemmas.List.{take_more, take-append-drop}
use Rattle.std.proofs.lemmas.List.Folds.{find-append, list_any_at}
use Rattle.rail_model.proofs.Lists.{flat_map-range_more}
use Rattle.plan_model.specs.Members.{is_among}

-- ---- in any list

-- tests that agree find the same
pub find_agree : {X : Type 0} (p q : X → Bool) (xs : List X) → All (λ x. p x ≡ q x) xs → find p xs ≡ find q xs
find_agree p q [] h = refl
find_agree p q (x ∷ xs) h =
    let here : p x ≡ q x = All-head (λ x. p x ≡ q x) x xs h in
    let rest = find_agree p q xs (All-tail (λ x. p x ≡ q x) x xs h) in
    elim (cases_Bool (q x)) [
      | inl e ↦ let f : p x ≡ true = here ∙ e in rw (e, f) refl
      | inr e ↦ let f : p x ≡ false = here ∙ e in rw (e, f) rest
    ]

-- what is found passes, and what holds of all holds of it
pub find_holds : {X : Type 0} (p : X → Bool) (P : X → Type 0) (xs : List X) (y : X) → All P xs → find p xs ≡ Some y
    → (p y ≡ true) × P y
find_holds p P [] y h e = absurd (cc)
find_holds {X} p P (x ∷ xs) y h e =
    elim (cases_Bool (p x)) [
      | inl t ↦
          let is : x ≡ y = (let g : Some x ≡ Some y = rw t at e in cc) in
          subst (λ (z : X). (p z ≡ true) × P z) is (t, All-head P x xs h)
      | inr f ↦ find_holds p P xs y (All-tail P x xs h) (rw f at e)
    ]

-- what is found is one of some, and passes
pub found : (test : ℕ → Bool) (some : List ℕ) (x : ℕ) → find test some ≡ Some x
    → (is_among some x ≡ true) × (test x ≡ true)
found test some x e =
    let r = find_holds test (λ i. is_among some i ≡ true) some x (λ k d l. list_any_at _ some k d l (eq-eqb _ _ refl)) e in
    (r.1, r.0)

-- where one passes, one is found
pub find_some : (test : ℕ → Bool) (some : List ℕ) → list_any test some ≡ true
    → (i : ℕ) × (find test some ≡ Some i) × (is_among some i ≡ true) × (test i ≡ true)
find_some test [] h = absurd (cc)
find_some test (k ∷ some) h =
    elim (cases_Bool (test k)) [
      | inl e ↦ (k, rw e refl, or_left (k == k) (is_among some k) (eq-eqb k k refl), e)
      | inr e ↦
          let r = find_some test some (rw e at h) in
          (r.0, rw e r.1, or_right (k == r.0) (is_among some r.0) r.2, r.3)
    ]

-- among those that pass another test
pub find_within : (p test : ℕ → Bool) (some : List ℕ) → find test (filter p some) ≡ find (λ i. p i && test i) some
find_within p test [] = refl
find_within p test (k ∷ some) =
    elim (cases_Bool (p k)) [
      | inl e ↦ elim (cases_Bool (test k)) [ inl f ↦ rw (e, f) refl | inr f ↦ rw (e, f) (find_within p test some) ]
      | inr e ↦ rw e (find_within p test some)
    ]

-- what is found stands first among those that pass
pub found_first : (p : ℕ → Bool) (some : List ℕ) (x : ℕ) → find p some ≡ Some x → get_or (filter p some) 0 0 ≡ x
found_first p [] x e = absurd (cc)
found_first p (k ∷ some) x e =
    elim (cases_Bool (p k)) [
      | inl t ↦ (let g : Some k ≡ Some x = rw t at e in rw t (let s : k ≡ x = cc in s))
      | inr f ↦ rw f (found_first p some x (rw f at e))
    ]

-- ---- in a range

pub none_found : (test : ℕ → Bool) (a n : ℕ) → ((k : ℕ) → a ≤ k → k < a + n → test k ≡ false)
    → find test (range_with_len a n) ≡ None
none_found test a zero none = refl
none_found test a (suc n) none =
    let here : test a ≡ false = none a (omega arith) (omega arith) in
    rw here (none_found test (a + 1) n (λ k l m. none k (omega arith) (omega arith)))

pub first_found : (test : ℕ → Bool) (a n x : ℕ) → a ≤ x → x < a + n → ((k : ℕ) → a ≤ k → k < x → test k ≡ false)
    → test x ≡ true → find test (range_with_len a n) ≡ Some x
first_found test a zero x l m none t = absurd (omega arith)
first_found test a (suc n) x l m none t =
    elim (cases_eq a x) [
      | inl e ↦ let here : test a ≡ true = ap test e ∙ t in rw here (ap Some e)
      | inr apart ↦
          let here : test a ≡ false = none a (omega arith) (omega (arith, apart)) in
          rw here (first_found test (a + 1) n x (omega (arith, apart)) (omega arith) (λ k lk mk. none k (omega arith) mk) t)
    ]

module _ {X : Type 0} (test : X → Bool) (f : ℕ → List X) where
  both : (n : ℕ) → find test (flat_map f (range_with_len 0 (n + 1)))
      ≡ option_or (find test (flat_map f (range_with_len 0 n))) (find test (f n))
  both n = ap (find test) (flat_map-range_more f n) ∙ find-append test (flat_map f (range_with_len 0 n)) (f n)

  pub none_yet : (n : ℕ) → find test (flat_map f (range_with_len 0 n)) ≡ None → find test (f n) ≡ None
      → find test (flat_map f (range_with_len 0 (n + 1))) ≡ None
  none_yet n h e = both n ∙ ap (λ o. option_or o (find test (f n))) h ∙ e

  pub found_in : (n i : ℕ) (x : X) → i < n → find test (flat_map f (range_with_len 0 i)) ≡ None → find test (f i) ≡ Some x
      → find test (flat_map f (range_with_len 0 n)) ≡ Some x
  found_in zero i x l h e = absurd (omega arith)
  found_in (suc n) i x l h e =
      subst (λ m. find test (flat_map f (range_with_len 0 m)) ≡ Some x) (let s : n + 1 ≡ suc n = omega arith in s)
      (elim (cases_eq i n) [
        | inl s ↦
            subst (λ m. find test (flat_map f (range_with_len 0 (m + 1))) ≡ Some x) s
            (both i ∙ ap (λ o. option_or o (find test (f i))) h ∙ e)
        | inr d ↦
            both n ∙ ap (λ o. option_or o (find test (f n))) (found_in n i x (omega arith) h e)
      ])

-- along a list
pub none_next : (test : ℕ → Bool) (xs : List ℕ) (k : ℕ) → k < length xs → find test (take k xs) ≡ None
    → test (get_or xs k 0) ≡ false → find test (take (k + 1) xs) ≡ None
none_next test xs k l h f =
    ap (find test) (take_more xs k 0 l) ∙ find-append test (take k xs) (get_or xs k 0 ∷ [])
    ∙ ap (λ o. option_or o (find test (get_or xs k 0 ∷ []))) h ∙ rw f refl

pub found_next : (test : ℕ → Bool) (xs : List ℕ) (k : ℕ) → k < length xs → find test (take k xs) ≡ None
    → test (get_or xs k 0) ≡ true → find test xs ≡ Some (get_or xs k 0)
found_next test xs k l h t =
    let here : find test (get_or xs k 0 ∷ []) ≡ Some (get_or xs k 0) = rw t refl in
    ap (find test) (sym (take-append-drop (k + 1) xs)) ∙ find-append test (take (k + 1) xs) (drop (k + 1) xs)
    ∙ ap (λ o. option_or o (find test (drop (k + 1) xs)))
    (ap (find test) (take_more xs k 0 l) ∙ find-append test (take k xs) (get_or xs k 0 ∷ [])
    ∙ ap (λ o. option_or o (find test (get_or xs k 0 ∷ []))) h ∙ here)
