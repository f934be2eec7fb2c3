-- The items under a list of keys: what a search along the keys finds, and what stands there after an edit.
use Rattle.std.proofs.Common.{◌≡◌, ℕ, zero, suc, ◌<◌, ◌==◌, if◌then◌else◌, List, [], ◌∷◌, ◌++◌, length, map, get_or, Option, Some, None, refl, sym, ap, ◌∙◌, subst, inl, inr, arith}
use Rattle.std.specs.Prelude.{option_map, IsSome, All}
use Rattle.std.specs.List.{list_any}
use Rattle.std.proofs.lemmas.Bool.{cases_Bool, eqb-true}
use Rattle.std.proofs.lemmas.List.Elements.{All-nil, All-cons, All-head, All-tail, filter_map-append}
use Rattle.line_tables.specs.Table.{filed, under}

-- what is there is some value
pub stored_at : {X : Type 0} (o : Option X) → IsSome o → (x : X) × (o ≡ Some x)
stored_at None h = absurd (cc)
stored_at (Some x) h = (x, refl)

module _ {X : Type 0} where
  abbrev pub IsStored : (ℕ → Option X) → ℕ → Type 0
  IsStored at k = IsSome (at k)

  pub filed-append : (at : ℕ → Option X) (js ks : List ℕ) → filed at (js ++ ks) ≡ filed at js ++ filed at ks
  filed-append at js ks = filter_map-append (λ k. option_map (λ x. (k, x)) (at k)) js ks

  pub filed-cons : (at : ℕ → Option X) (k : ℕ) (x : X) (ks : List ℕ) → at k ≡ Some x → filed at (k ∷ ks) ≡ (k, x) ∷ filed at ks
  filed-cons at k x ks e = rw e refl

  -- what else stands elsewhere doesn't matter
  pub filed-same : (at other : ℕ → Option X) (ks : List ℕ) → All (λ k. other k ≡ at k) ks → filed other ks ≡ filed at ks
  filed-same at other [] h = refl
  filed-same at other (k ∷ ks) h =
      rw (All-head (λ k. other k ≡ at k) k ks h, filed-same at other ks (All-tail (λ k. other k ≡ at k) k ks h)) refl

  pub length-filed : (at : ℕ → Option X) (ks : List ℕ) → All (IsStored at) ks → length (filed at ks) ≡ length ks
  length-filed at [] s = refl
  length-filed at (k ∷ ks) s =
      let here = stored_at (at k) (All-head (IsStored at) k ks s) in
      rw here.1 (ap suc (length-filed at ks (All-tail (IsStored at) k ks s)))

  pub keys-filed : (at : ℕ → Option X) (ks : List ℕ) → All (IsStored at) ks → map (λ (e : ℕ × X). e.0) (filed at ks) ≡ ks
  keys-filed at [] s = refl
  keys-filed at (k ∷ ks) s =
      let here = stored_at (at k) (All-head (IsStored at) k ks s) in
      rw here.1 (ap (λ l. k ∷ l) (keys-filed at ks (All-tail (IsStored at) k ks s)))

  -- the item at a place is what stands under the key there
  pub filed-at : (at : ℕ → Option X) (ks : List ℕ) (i d : ℕ) → All (IsStored at) ks → i < length ks → (x : X) × (at (get_or ks i d) ≡ Some x) × ((e : ℕ × X) → get_or (filed at ks) i e ≡ (get_or ks i d, x))
  filed-at at [] i d s l = absurd (omega arith)
  filed-at at (k ∷ ks) zero d s l =
      let here = stored_at (at k) (All-head (IsStored at) k ks s) in
      (here.0, here.1, λ e. ap (λ l. get_or l 0 e) (filed-cons at k here.0 ks here.1))
  filed-at at (k ∷ ks) (suc i) d s l =
      let here = stored_at (at k) (All-head (IsStored at) k ks s) in
      let rest = filed-at at ks i d (All-tail (IsStored at) k ks s) (omega arith) in
      (rest.0, rest.1, λ e. ap (λ l. get_or l (suc i) e) (filed-cons at k here.0 ks here.1) ∙ rest.2 e)

  pub All-filed : (P : ℕ × X → Type 0) (at : ℕ → Option X) (ks : List ℕ) → All (IsStored at) ks → All (λ k. (x : X) → at k ≡ Some x → P (k, x)) ks → All P (filed at ks)
  All-filed P at [] s h = All-nil P
  All-filed P at (k ∷ ks) s h =
      let Q : ℕ → Type 0 = λ k. (x : X) → at k ≡ Some x → P (k, x) in
      let here = stored_at (at k) (All-head (IsStored at) k ks s) in
      rw here.1 (All-cons P (k, here.0) (filed at ks) (All-head Q k ks h here.0 here.1) (All-filed P at ks (All-tail (IsStored at) k ks s) (All-tail Q k ks h)))

  -- what stands under a key of the list, and nothing under any other
  pub under-filed : (at : ℕ → Option X) (ks : List ℕ) (k : ℕ) → All (IsStored at) ks → under (filed at ks) k ≡ (if list_any (λ q. q == k) ks then at k else None)
  under-filed at [] k s = refl
  under-filed at (q ∷ ks) k s =
      let here = stored_at (at q) (All-head (IsStored at) q ks s) in
      let rest = under-filed at ks k (All-tail (IsStored at) q ks s) in
      rw here.1
      (elim (cases_Bool (q == k)) [
        | inl e ↦ rw e (sym here.1 ∙ ap at (eqb-true q k e))
        | inr e ↦ rw e rest
      ])

  -- what stands under a key of the table stands under it in its slots
  pub under_slot : (at : ℕ → Option X) (order : List ℕ) (k : ℕ) → All (IsStored at) order → IsSome (under (filed at order) k) → under (filed at order) k ≡ at k
  under_slot at order k s there =
      let is = under-filed at order k s in
      elim (cases_Bool (list_any (λ q. q == k) order)) [
        | inl e ↦ is ∙ rw e refl
        | inr e ↦
            let none : under (filed at order) k ≡ None = is ∙ rw e refl in
            absurd (let no : IsSome {T = X} None = subst IsSome none there in cc)
      ]

  pub under_vacant : (at : ℕ → Option X) (order : List ℕ) (k : ℕ) → All (IsStored at) order → at k ≡ None → under (filed at order) k ≡ None
  under_vacant at order k s none =
      under-filed at order k s ∙ elim (cases_Bool (list_any (λ q. q == k) order)) [ inl e ↦ rw (e, none) refl | inr e ↦ rw e refl ]

-- what a mapped option came from
pub some_from_map : {X Y : Type 0} (f : X → Y) (o : Option X) (y : Y) → option_map f o ≡ Some y → (x : X) × (o ≡ Some x) × (f x ≡ y)
some_from_map f None y e = absurd (cc)
some_from_map f (Some x) y e = (x, refl, cc)
