-- The place of a name in a list whose names rise: what stands there, and what an item put there changes.
use Rattle.std.proofs.Common.{◌≡◌, ℕ, suc, ◌+◌, ◌-◌, ◌<◌, ◌≤◌, Bool, true, false, cond, ◌||◌, List, [], ◌∷◌, ◌++◌, length, get_or, take, drop, insert, Some, refl, sym, ap, ◌∙◌, subst, inl, inr, arith}
use Rattle.std.specs.List.{list_any, find, filter, All, position_or_len}
use Rattle.std.specs.Prelude.{◌⊎◌, unwrap_or, IfOk, IfErr, Result, Ok, Err}
use Rattle.std.specs.List.Sorted.{IsBinarySearchResult, IsSearchInRange}
use Rattle.std.proofs.lemmas.List.Sorted.{searchable_from_sorted}
use Rattle.std.proofs.lemmas.Cmp.{nat_list_cmp_total}
use Rattle.std.proofs.lemmas.Map.Lookups.{exact_bytes}
use Rattle.std.specs.Cmp.Lexicographic.{slice_cmp}
use Rattle.std.specs.Ordering.{nat_cmp}
use Rattle.std.specs.declared.cmp.Ordering.{Ordering}
use Rattle.std.specs.declared.cmp.Ordering.TheVariants.{Less, Equal, Greater}
use Rattle.std.proofs.lemmas.Bool.{both_ways, or_parts, or_cases, or_left, or_right, cases_order}
use Rattle.std.proofs.lemmas.List.{take-append-drop, get_or-take, get_or-drop, length-take-le, length-drop, append-nil}
use Rattle.std.proofs.lemmas.List.Edits.{length-insert, get_or-insert_below, get_or-insert_at, get_or-insert_above}
use Rattle.std.proofs.lemmas.List.Elements.{filter-append, All-append, All-cons, All-take, All-drop, All-head, All-tail}
use Rattle.std.proofs.lemmas.List.Folds.{list_any_none, list_any-append, list_any_at, find_at}
use Rattle.std.proofs.lemmas.List.Sums.{position_or_len_is}
use Rattle.std.proofs.lemmas.Option.{unwrap_or-slice_get}
use Rattle.rail_model.specs.Name.{IsBefore, is_before, is_same, NamesRise}
use Rattle.rail_model.specs.Tables.{number_of}
use Rattle.rail_model.specs.Rules.{with_item, is_named}
use Rattle.rail_model.proofs.NameOrder.{is_before-from, is_before-back, is_same-before, is_same-after, is_same-equal, is_same-from, IsBefore-trans, IsBefore-flip}

pub filter_all : {X : Type 0} (p : X → Bool) (xs : List X) → All (λ x. p x ≡ true) xs → filter p xs ≡ xs
filter_all p [] h = refl
filter_all p (x ∷ xs) h =
    rw (All-head (λ x. p x ≡ true) x xs h) (ap (λ ys. x ∷ ys) (filter_all p xs (All-tail (λ x. p x ≡ true) x xs h)))

pub filter_none : {X : Type 0} (p : X → Bool) (xs : List X) → All (λ x. p x ≡ false) xs → filter p xs ≡ []
filter_none p [] h = refl
filter_none p (x ∷ xs) h =
    rw (All-head (λ x. p x ≡ false) x xs h) (filter_none p xs (All-tail (λ x. p x ≡ false) x xs h))

-- items before place i have names before n, and those from i on after it
pub record IsPlace {X : Type 0} (name : X → List ℕ) (items : List X) (n : List ℕ) (i : ℕ) : Type 0 where
  pub within : i ≤ length items
  pub below : All (λ x. IsBefore (name x) n) (take i items)
  pub above : All (λ x. IsBefore n (name x)) (drop i items)

insert_at : {X : Type 0} (xs : List X) (i : ℕ) (x : X) (k : ℕ) (d : X) → i ≤ length xs → ((k < i) × (get_or (insert xs i x) k d ≡ get_or xs k d)) ⊎ (((k ≡ i) × (get_or (insert xs i x) k d ≡ x)) ⊎ ((i < k) × (get_or (insert xs i x) k d ≡ get_or xs (k - 1) d)))
insert_at xs i x k d le =
    elim (cases_order k i) [
      | inl e ↦ inr (inl (e, rw e (get_or-insert_at xs i x d le)))
      | inr o ↦ elim o [
        | inl lt ↦ inl (lt, get_or-insert_below xs i x d k lt le)
        | inr gt ↦ inr (inr (
          gt,
          (let e : (k - 1) + 1 ≡ k = omega arith in
              subst (λ m. get_or (insert xs i x) m d ≡ get_or xs (k - 1) d) e (get_or-insert_above xs i x d (k - 1) (omega arith) le)),
        ))
      ]
    ]

module _ {X : Type 0} (name : X → List ℕ) where
  -- a name that isn't there has a place
  pub place : (items : List X) (n : List ℕ) → NamesRise name items → is_named name items n ≡ false → (i : ℕ) × IsPlace name items n i
  place [] n rise out = (0, record { within = omega arith; below = λ k d l. absurd (omega arith); above = λ k d l. absurd (omega arith) })
  place (x ∷ items) n rise out =
      let apart = or_parts (is_same (name x) n) (is_named name items n) out in
      let order : (o : Ordering) → slice_cmp nat_cmp (name x) n ≡ o → (i : ℕ) × IsPlace name (x ∷ items) n i = λ o.
      elim o as (λ o. slice_cmp nat_cmp (name x) n ≡ o → (i : ℕ) × IsPlace name (x ∷ items) n i) [
        | Less ↦ λ e.
            let rest = place items n (λ i j d l m. rise (suc i) (suc j) d (omega arith) (omega arith)) apart.1 in (
              suc rest.0,
              record {
                within = omega (arith, rest.1.within);
                below = All-cons (λ y. IsBefore (name y) n) x (take rest.0 items) e rest.1.below;
                above = rest.1.above;
              },
            )
        | Equal ↦ λ e. absurd (both_ways (is_same (name x) n) apart.0 (is_same-equal (name x) n e))
        | Greater ↦ λ e.
            let first : IsBefore n (name x) = IsBefore-flip (name x) n e in (
              0,
              record {
                within = omega arith;
                below = λ k d l. absurd (omega arith);
                above = All-cons (λ y. IsBefore n (name y)) x items first (λ k d l. IsBefore-trans n (name x) (name (get_or items k d)) first (rise 0 (suc k) d (omega arith) (omega arith)));
              },
            )
      ] in
      order (slice_cmp nat_cmp (name x) n) refl

  -- an item put in at the place of its name
  pub with_item-place : (items : List X) (x : X) (n : List ℕ) (i : ℕ) → name x ≡ n → IsPlace name items n i → with_item name items x ≡ insert items i x
  with_item-place items x n i e p =
      let front = take i items in
      let back = drop i items in
      let whole : front ++ back ≡ items = take-append-drop i items in
      let is_front : X → Bool = λ y. is_before (name y) n in
      let is_back : X → Bool = λ y. is_before n (name y) in
      let fronts : filter is_front items ≡ front =
      ap (filter is_front) (sym whole) ∙ filter-append is_front front back
      ∙ rw (filter_all is_front front (λ k d l. is_before-from (name (get_or front k d)) n (p.below k d l)), filter_none is_front back (λ k d l. is_before-back n (name (get_or back k d)) (p.above k d l))) (append-nil front) in
      let backs : filter is_back items ≡ back =
      ap (filter is_back) (sym whole) ∙ filter-append is_back front back
      ∙ rw (filter_none is_back front (λ k d l. is_before-back (name (get_or front k d)) n (p.below k d l)), filter_all is_back back (λ k d l. is_before-from n (name (get_or back k d)) (p.above k d l))) refl in
      rw (e, fronts, backs) refl

  pub is_named-place : (items : List X) (n : List ℕ) (i : ℕ) → IsPlace name items n i → is_named name items n ≡ false
  is_named-place items n i p =
      let front = take i items in
      let back = drop i items in
      let apart : All (λ x. is_same (name x) n ≡ false) (front ++ back) =
      All-append (λ x. is_same (name x) n ≡ false) front back
      (λ k d l. is_same-before (name (get_or front k d)) n (p.below k d l))
      (λ k d l. is_same-after n (name (get_or back k d)) (p.above k d l)) in
      rw (← take-append-drop i items) (list_any_none (λ x. is_same (name x) n) (front ++ back) apart)

  -- a name that stands at i has the number i
  pub number_of-found : (items : List X) (n : List ℕ) (i : ℕ) → NamesRise name items → i < length items → ((d : X) → name (get_or items i d) ≡ n) → number_of name items n ≡ i
  number_of-found [] n i rise l e = absurd (omega arith)
  number_of-found (x ∷ items) n i rise l e =
      position_or_len_is (λ y. is_same (name y) n) (x ∷ items) i x (omega arith)
      (λ k lt. is_same-before _ n (subst (λ m. IsBefore (name (get_or (x ∷ items) k x)) m) (e x) (rise k i x lt l)))
      (λ _. is_same-from _ n (e x))

  -- a name that isn't there has the number after the last
  pub number_of-missing : (items : List X) (n : List ℕ) → is_named name items n ≡ false → number_of name items n ≡ length items
  number_of-missing [] n out = refl
  number_of-missing (x ∷ items) n out =
      let apart = or_parts (is_same (name x) n) (is_named name items n) out in
      rw (apart.0, number_of-missing items n apart.1) (omega arith)

  -- before the place, and from it on
  name_below : (items : List X) (n : List ℕ) (i : ℕ) → IsPlace name items n i → (k : ℕ) (d : X) → k < i → IsBefore (name (get_or items k d)) n
  name_below items n i p k d lt =
      subst (λ y. IsBefore (name y) n) (get_or-take i items k d lt) (p.below k d (let fits : i ≤ length items = p.within in omega (arith, length-take-le i items fits)))

  name_above : (items : List X) (n : List ℕ) (i : ℕ) → IsPlace name items n i → (k : ℕ) (d : X) → i ≤ k → k < length items → IsBefore n (name (get_or items k d))
  name_above items n i p k d le l =
      let e : i + (k - i) ≡ k = omega arith in
      subst (λ m. IsBefore n (name (get_or items m d))) e
      (subst (λ y. IsBefore n (name y)) (get_or-drop i items (k - i) d) (p.above (k - i) d (omega (arith, length-drop i items))))

  -- an item put in at the place of its name keeps the order
  pub NamesRise-insert : (items : List X) (x : X) (i : ℕ) → NamesRise name items → IsPlace name items (name x) i → NamesRise name (insert items i x)
  NamesRise-insert items x i rise p a b d lt l =
      let long = length-insert items i x p.within in
      let below = name_below items (name x) i p in
      let above = name_above items (name x) i p in
      elim (insert_at items i x a d p.within) [
        | inl u ↦ elim (insert_at items i x b d p.within) [
          | inl v ↦ rw (u.1, v.1) (rise a b d lt (omega (arith, p.within)))
          | inr o ↦ elim o [
            | inl v ↦ rw (u.1, v.1) (below a d u.0)
            | inr v ↦ rw (u.1, v.1) (rise a (b - 1) d (omega arith) (omega arith))
          ]
        ]
        | inr o ↦ elim o [
          | inl u ↦ elim (insert_at items i x b d p.within) [
            | inl v ↦ absurd (omega arith)
            | inr o ↦ elim o [
              | inl v ↦ absurd (omega arith)
              | inr v ↦ rw (u.1, v.1) (above (b - 1) d (omega arith) (omega arith))
            ]
          ]
          | inr u ↦ elim (insert_at items i x b d p.within) [
            | inl v ↦ absurd (omega arith)
            | inr o ↦ elim o [
              | inl v ↦ absurd (omega arith)
              | inr v ↦ rw (u.1, v.1) (rise (a - 1) (b - 1) d (omega arith) (omega arith))
            ]
          ]
        ]
      ]

-- what a binary search for a name answers: the number of the item of that name, or the place for one
pub record IsFound {X : Type 0} (name : X → List ℕ) (items : List X) (n : List ℕ) (r : Result ℕ ℕ) : Type 0 where
  pub there : IfOk r (λ i. is_named name items n ≡ true)
  pub number : IfOk r (λ i. i ≡ number_of name items n)
  pub in_range : IfOk r (λ i. i < length items)
  pub missing : IfErr r (λ i. is_named name items n ≡ false)
  pub place : IfErr r (λ i. (x : X) → name x ≡ n → with_item name items x ≡ insert items i x)
  pub within : IfErr r (λ i. i ≤ length items)

module _ {X : Type 0} (name : X → List ℕ) where
  is_named-found : (items : List X) (n : List ℕ) (i : ℕ) → i < length items → ((d : X) → name (get_or items i d) ≡ n) → is_named name items n ≡ true
  is_named-found [] n i l e = absurd (omega arith)
  is_named-found (x ∷ items) n i l e = list_any_at (λ y. is_same (name y) n) (x ∷ items) i x l (is_same-from _ n (e x))

  pub place_searched : (items : List X) (n : List ℕ) (i : ℕ) → NamesRise name items → i ≤ length items → IsBinarySearchResult (λ y. slice_cmp nat_cmp (name y) n) items (Err i) → IsPlace name items n i
  place_searched items n i rise l h =
      let unsorted : (k : ℕ) (d : X) → 0 ≤ k → k + 1 < length items → is_before (name (get_or items (k + 1) d)) (name (get_or items k d)) ≡ false =
      λ k d le lt. is_before-back (name (get_or items k d)) (name (get_or items (k + 1) d)) (rise k (k + 1) d (omega arith) lt) in
      let point = h (searchable_from_sorted nat_list_cmp_total name items n unsorted) in
      record {
        within = l;
        below = λ k d lt.
            let early : k < i = omega (arith, length-take-le i items l) in
            rw (get_or-take i items k d early) (point.0 k d (omega arith) early);
        above = λ k d lt.
            let late : i + k < length items = omega (arith, length-drop i items) in
            rw (get_or-drop i items k d) (IsBefore-flip (name (get_or items (i + k) d)) n (point.1 (i + k) d (omega arith) late));
      }

  pub searched : (items : List X) (n : List ℕ) (r : Result ℕ ℕ) → NamesRise name items → IsSearchInRange r (length items) → IsBinarySearchResult (λ y. slice_cmp nat_cmp (name y) n) items r → IsFound name items n r
  searched items n (Ok i) rise l h =
      let here : (d : X) → name (get_or items i d) ≡ n = λ d. exact_bytes (name (get_or items i d)) n (h d) in
      record {
        there = is_named-found items n i l here;
        number = sym (number_of-found name items n i rise l here);
        in_range = l;
        missing = tt;
        place = tt;
        within = tt;
      }
  searched items n (Err i) rise l h =
      let p = place_searched items n i rise l h in
      record {
        there = tt;
        number = tt;
        in_range = tt;
        missing = is_named-place name items n i p;
        place = λ x e. with_item-place name items x n i e p;
        within = l;
      }

-- what an item put in leaves: names that are there, and what stands first under a test that it fails
pub list_any-insert : {X : Type 0} (p : X → Bool) (xs : List X) (i : ℕ) (x : X) → list_any p xs ≡ true → list_any p (insert xs i x) ≡ true
list_any-insert p xs i x h =
    let split : list_any p xs ≡ (list_any p (take i xs) || list_any p (drop i xs)) =
    ap (list_any p) (sym (take-append-drop i xs)) ∙ list_any-append p (take i xs) (drop i xs) in
    list_any-append p (take i xs) (x ∷ drop i xs)
    ∙ elim (or_cases (list_any p (take i xs)) (list_any p (drop i xs)) (sym split ∙ h)) [
      | inl e ↦ or_left (list_any p (take i xs)) (p x || list_any p (drop i xs)) e
      | inr e ↦ or_right (list_any p (take i xs)) (p x || list_any p (drop i xs)) (or_right (p x) (list_any p (drop i xs)) e)
    ]

find-skip : {X : Type 0} (p : X → Bool) (xs ys : List X) (x : X) → p x ≡ false → find p (xs ++ x ∷ ys) ≡ find p (xs ++ ys)
find-skip p [] ys x h = rw h
find-skip p (y ∷ xs) ys x h = ap (λ o. cond (p y) (Some y) o) (find-skip p xs ys x h)

pub first-insert : {X : Type 0} (p : X → Bool) (xs : List X) (i : ℕ) (x d : X) → p x ≡ false → get_or (insert xs i x) (position_or_len p (insert xs i x)) d ≡ get_or xs (position_or_len p xs) d
first-insert p xs i x d h =
    let kept : find p (insert xs i x) ≡ find p xs =
    find-skip p (take i xs) (drop i xs) x h ∙ ap (find p) (take-append-drop i xs) in
    sym (unwrap_or-slice_get (insert xs i x) (position_or_len p (insert xs i x)) d)
    ∙ ap (λ o. unwrap_or o d) (sym (find_at p (insert xs i x)) ∙ kept ∙ find_at p xs)
    ∙ unwrap_or-slice_get xs (position_or_len p xs) d

pub All-insert : {X : Type 0} (P : X → Type 0) (xs : List X) (i : ℕ) (x : X) → P x → All P xs → All P (insert xs i x)
All-insert P xs i x one all = All-append P (take i xs) (x ∷ drop i xs) (All-take P i xs all) (All-cons P x (drop i xs) one (All-drop P i xs all))
