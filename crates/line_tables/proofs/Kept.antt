-- A table's parts after a put, a change and a drop: what they show, and that they still fit each other.
use Rattle.std.proofs.Common.{◌≡◌, ◌≢◌, ℕ, zero, suc, ◌+◌, ◌<◌, ◌≤◌, ◌==◌, Bool, true, not, cond, if◌then◌else◌, List, [], ◌∷◌, ◌++◌, length, get_or, take, drop, insert, Option, Some, None, refl, sym, ap, ◌∙◌, subst, inl, inr, arith, add-one}
use Rattle.std.specs.Prelude.{filter, option_map, IsSome, All, remove, Result, Ok, Err, MatchResult, slice_get}
use Rattle.std.specs.List.Sorted.{IsBinarySearchResult, IsSearchInRange}
use Rattle.std.specs.Cmp.Lexicographic.{slice_cmp}
use Rattle.std.specs.Ordering.{nat_cmp}
use Rattle.std.proofs.lemmas.Bool.{cases_Bool, both_ways, cases_eq, eqb-true, eq-eqb}
use Rattle.std.proofs.lemmas.Map.Lookups.{exact_bytes}
use Rattle.std.proofs.lemmas.List.{take-append-drop, drop_more, get_or_default, get_or-take, get_or-drop, length-take-le, length-drop, get_or-map, length-map}
use Rattle.std.proofs.lemmas.List.Elements.{All-append, All-head, All-tail, All-take, All-drop, All-weaker, filter-append}
use Rattle.std.proofs.lemmas.List.Edits.{length-insert, get_or-insert_at}
use Rattle.std.proofs.lemmas.List.Folds.{list_any_at, find_at}
use Rattle.std.proofs.lemmas.Option.{slice_get-get_or}
use Rattle.rail_model.specs.Name.{IsBefore, is_same, NamesRise}
use Rattle.rail_model.specs.Rules.{with_item, without}
use Rattle.rail_model.proofs.NameOrder.{is_same-from, is_same-before, is_same-after, never_before_itself}
use Rattle.rail_model.proofs.Places.{IsPlace, place_searched, is_named-place, with_item-place, number_of-found, All-insert, filter_all}
use Rattle.line_tables.specs.Table.{filed, under, with_change, named, name_at, key_of, item_of, IsTable, IsKept, IsPositionOf, IsPositionFor}
use Rattle.line_tables.proofs.Filed.{IsStored, stored_at, filed-append, filed-cons, filed-same, length-filed, filed-at, All-filed, under-filed, under_slot, some_from_map}
use Rattle.line_tables.proofs.Entries.{KeepsName, key_of-with_item, rise-with_item, key_of-without, rise-without, key_of-with_change}

-- one key has another slot, and all others keep theirs
pub record Sets {X : Type 0} (at other : ℕ → Option X) (k : ℕ) (slot : Option X) : Type 0 where
  pub changed : other k ≡ slot
  pub others : (q : ℕ) → q ≢ k → other q ≡ at q

-- an item stands under the key at place i
pub record StandsAt {X : Type 0} (at : ℕ → Option X) (order : List ℕ) (i k : ℕ) (x : X) : Type 0 where
  pub within : i < length order
  pub key : (d : ℕ) → get_or order i d ≡ k
  pub item : at k ≡ Some x

-- another key than k
abbrev IsOther : ℕ → ℕ → Type 0
IsOther k q = q ≢ k

module _ {X : Type 0} where
  take-filed : (at : ℕ → Option X) (i : ℕ) (ks : List ℕ) → All (IsStored at) ks → filed at (take i ks) ≡ take i (filed at ks)
  take-filed at zero ks s = refl
  take-filed at (suc i) [] s = refl
  take-filed at (suc i) (k ∷ ks) s =
      let here = stored_at (at k) (All-head (IsStored at) k ks s) in
      filed-cons at k here.0 (take i ks) here.1
      ∙ ap (λ l. (k, here.0) ∷ l) (take-filed at i ks (All-tail (IsStored at) k ks s))
      ∙ ap (take (suc i)) (sym (filed-cons at k here.0 ks here.1))

  drop-filed : (at : ℕ → Option X) (i : ℕ) (ks : List ℕ) → All (IsStored at) ks → filed at (drop i ks) ≡ drop i (filed at ks)
  drop-filed at zero ks s = refl
  drop-filed at (suc i) [] s = refl
  drop-filed at (suc i) (k ∷ ks) s =
      let here = stored_at (at k) (All-head (IsStored at) k ks s) in
      drop-filed at i ks (All-tail (IsStored at) k ks s) ∙ ap (drop (suc i)) (sym (filed-cons at k here.0 ks here.1))

  same_beside : (at other : ℕ → Option X) (k : ℕ) (slot : Option X) (ks : List ℕ) → Sets at other k slot → All (IsOther k) ks → filed other ks ≡ filed at ks
  same_beside at other k slot ks sets apart =
      filed-same at other ks (All-weaker (IsOther k) (λ q. other q ≡ at q) (λ q ne. sets.others q ne) ks apart)

  stored_beside : (at other : ℕ → Option X) (k : ℕ) (slot : Option X) (ks : List ℕ) → Sets at other k slot → All (IsOther k) ks → All (IsStored at) ks → All (IsStored other) ks
  stored_beside at other k slot ks sets apart s i d l = subst IsSome (sym (sets.others (get_or ks i d) (apart i d l))) (s i d l)

module _ {X : Type 0} (name : X → List ℕ) where
  name_at-is : (at : ℕ → Option X) (k : ℕ) (x : X) → at k ≡ Some x → name_at name at k ≡ name x
  name_at-is at k x e = rw e refl

  -- names rise along the keys, too
  pub rise_order : (at : ℕ → Option X) (ks : List ℕ) → All (IsStored at) ks → NamesRise (named name) (filed at ks) → NamesRise (name_at name at) ks
  rise_order at ks s rise i j d lt l =
      let a = filed-at at ks i d s (omega arith) in
      let b = filed-at at ks j d s l in
      let long = length-filed at ks s in
      let e : ℕ × X = (d, a.0) in
      let before = rise i j e lt (omega arith) in
      rw (name_at-is at (get_or ks i d) a.0 a.1, name_at-is at (get_or ks j d) b.0 b.1)
      (subst (λ (y : ℕ × X). IsBefore (name a.0) (name y.1)) (b.2 e) (subst (λ (y : ℕ × X). IsBefore (name y.1) (name (get_or (filed at ks) j e).1)) (a.2 e) before))

  -- a place among the keys is one among their items
  pub place_filed : (at : ℕ → Option X) (ks : List ℕ) (n : List ℕ) (i : ℕ) → All (IsStored at) ks → IsPlace (name_at name at) ks n i → IsPlace (named name) (filed at ks) n i
  place_filed at ks n i s p = record {
    within = omega (arith, p.within, length-filed at ks s);
    below =
        subst (All (λ (e : ℕ × X). IsBefore (name e.1) n)) (take-filed at i ks s)
        (All-filed (λ e. IsBefore (name e.1) n) at (take i ks) (All-take (IsStored at) i ks s)
        (All-weaker (λ k. IsBefore (name_at name at k) n) (λ k. (x : X) → at k ≡ Some x → IsBefore (name x) n) (λ k b x e. subst (λ m. IsBefore m n) (name_at-is at k x e) b) (take i ks) p.below));
    above =
        subst (All (λ (e : ℕ × X). IsBefore n (name e.1))) (drop-filed at i ks s)
        (All-filed (λ e. IsBefore n (name e.1)) at (drop i ks) (All-drop (IsStored at) i ks s)
        (All-weaker (λ k. IsBefore n (name_at name at k)) (λ k. (x : X) → at k ≡ Some x → IsBefore n (name x)) (λ k b x e. subst (λ m. IsBefore n m) (name_at-is at k x e) b) (drop i ks) p.above));
  }

  -- ---- a put

  -- nothing stands under the key yet, so it is none of the order's
  vacant_apart : (at : ℕ → Option X) (k : ℕ) (ks : List ℕ) → at k ≡ None → All (IsStored at) ks → All (IsOther k) ks
  vacant_apart at k ks none s i d l e =
      let there : IsSome (at k) = subst (IsStored at) e (s i d l) in
      absurd (let no : IsSome {T = X} None = subst IsSome none there in cc)

  pub put_is : (at other : ℕ → Option X) (order : List ℕ) (k : ℕ) (x : X) (i : ℕ) → All (IsStored at) order → Sets at other k (Some x) → at k ≡ None → IsPlace (name_at name at) order (name x) i → filed other (insert order i k) ≡ with_item (named name) (filed at order) (k, x)
  put_is at other order k x i s sets none p =
      let apart = vacant_apart at k order none s in
      let front = same_beside at other k (Some x) (take i order) sets (All-take (IsOther k) i order apart) ∙ take-filed at i order s in
      let back = same_beside at other k (Some x) (drop i order) sets (All-drop (IsOther k) i order apart) ∙ drop-filed at i order s in
      filed-append other (take i order) (k ∷ drop i order)
      ∙ ap (λ l. filed other (take i order) ++ l) (filed-cons other k x (drop i order) sets.changed)
      ∙ ap (λ l. l ++ (k, x) ∷ filed other (drop i order)) front
      ∙ ap (λ l. take i (filed at order) ++ (k, x) ∷ l) back
      ∙ sym (with_item-place (named name) (filed at order) (k, x) (name x) i refl (place_filed at order (name x) i s p))

  pub kept_by_put : (at other : ℕ → Option X) (order : List ℕ) (sought sought' : List ℕ → Option ℕ) (k : ℕ) (x : X) (i : ℕ) → IsKept name at order sought → Sets at other k (Some x) → at k ≡ None → IsPlace (name_at name at) order (name x) i → ((n : List ℕ) → sought' n ≡ cond (is_same (name x) n) (Some k) (sought n)) → IsKept name other (insert order i k) sought'
  kept_by_put at other order sought sought' k x i kept sets none p updates =
      let is = put_is at other order k x i kept.stored sets none p in
      let new = is_named-place (named name) (filed at order) (name x) i (place_filed at order (name x) i kept.stored p) in
      record {
        stored = All-insert (IsStored other) order i k (rw sets.changed refl) (stored_beside at other k (Some x) order sets (vacant_apart at k order none kept.stored) kept.stored);
        rise = subst (NamesRise (named name)) (sym is) (rise-with_item name (filed at order) k x kept.rise new);
        found = λ n.
            updates n ∙ ap (cond (is_same (name x) n) (Some k)) (kept.found n)
            ∙ sym (key_of-with_item name (filed at order) k x n kept.rise new)
            ∙ ap (λ l. key_of name l n) (sym is);
      }

  pub there_by_put : (at other : ℕ → Option X) (order : List ℕ) (k : ℕ) (x : X) (i : ℕ) → All (IsStored at) order → Sets at other k (Some x) → at k ≡ None → i ≤ length order → under (filed other (insert order i k)) k ≡ Some x
  there_by_put at other order k x i s sets none l =
      let stored = All-insert (IsStored other) order i k (rw sets.changed refl) (stored_beside at other k (Some x) order sets (vacant_apart at k order none s) s) in
      let here = get_or-insert_at order i k 0 l in
      let listed = list_any_at (λ q. q == k) (insert order i k) i 0 (omega (arith, length-insert order i k l)) (eq-eqb (get_or (insert order i k) i 0) k here) in
      under-filed other (insert order i k) k stored ∙ rw listed sets.changed

  -- ---- a drop

  split_at : (at : ℕ → Option X) (order : List ℕ) (i k : ℕ) (x : X) → StandsAt at order i k x → order ≡ take i order ++ k ∷ drop (suc i) order
  split_at at order i k x h =
      sym (take-append-drop i order) ∙ ap (λ l. take i order ++ l) (drop_more order i 0 h.within ∙ rw (h.key 0, add-one) refl)

  names_before : (at : ℕ → Option X) (order : List ℕ) (i k : ℕ) (x : X) → All (IsStored at) order → NamesRise (named name) (filed at order) → StandsAt at order i k x → All (λ q. IsBefore (name_at name at q) (name x)) (take i order)
  names_before at order i k x s rise h a d l =
      let early : a < i = omega (arith, length-take-le i order (let w : i < length order = h.within in omega arith)) in
      let here = rise_order at order s rise a i d early h.within in
      rw (get_or-take i order a d early) (subst (λ m. IsBefore (name_at name at (get_or order a d)) m) (ap (name_at name at) (h.key d) ∙ name_at-is at k x h.item) here)

  names_after : (at : ℕ → Option X) (order : List ℕ) (i k : ℕ) (x : X) → All (IsStored at) order → NamesRise (named name) (filed at order) → StandsAt at order i k x → All (λ q. IsBefore (name x) (name_at name at q)) (drop (suc i) order)
  names_after at order i k x s rise h a d l =
      let late : suc i + a < length order = omega (arith, length-drop (suc i) order) in
      let here = rise_order at order s rise i (suc i + a) d (omega arith) late in
      rw (get_or-drop (suc i) order a d) (subst (λ m. IsBefore m (name_at name at (get_or order (suc i + a) d))) (ap (name_at name at) (h.key d) ∙ name_at-is at k x h.item) here)

  apart_before : (at : ℕ → Option X) (k : ℕ) (x : X) (ks : List ℕ) → at k ≡ Some x → All (λ q. IsBefore (name_at name at q) (name x)) ks → All (IsOther k) ks
  apart_before at k x ks e b i d l same =
      never_before_itself (name x) (subst (λ m. IsBefore m (name x)) (ap (name_at name at) same ∙ name_at-is at k x e) (b i d l))

  apart_after : (at : ℕ → Option X) (k : ℕ) (x : X) (ks : List ℕ) → at k ≡ Some x → All (λ q. IsBefore (name x) (name_at name at q)) ks → All (IsOther k) ks
  apart_after at k x ks e b i d l same =
      never_before_itself (name x) (subst (λ m. IsBefore (name x) m) (ap (name_at name at) same ∙ name_at-is at k x e) (b i d l))

  pub drop_is : (at other : ℕ → Option X) (order : List ℕ) (i k : ℕ) (x : X) → All (IsStored at) order → NamesRise (named name) (filed at order) → Sets at other k None → StandsAt at order i k x → filed other (remove order i) ≡ without (named name) (filed at order) (name x)
  drop_is at other order i k x s rise sets h =
      let before = names_before at order i k x s rise h in
      let after = names_after at order i k x s rise h in
      let front = filed at (take i order) in
      let back = filed at (drop (suc i) order) in
      let stays : ℕ × X → Bool = λ e. not (is_same (name e.1) (name x)) in
      let whole : filed at order ≡ front ++ (k, x) ∷ back =
      ap (filed at) (split_at at order i k x h) ∙ filed-append at (take i order) (k ∷ drop (suc i) order)
      ∙ ap (λ l. front ++ l) (filed-cons at k x (drop (suc i) order) h.item) in
      let fronts : filter stays front ≡ front =
      filter_all stays front
      (All-filed (λ e. stays e ≡ true) at (take i order) (All-take (IsStored at) i order s)
      (All-weaker (λ q. IsBefore (name_at name at q) (name x)) (λ q. (y : X) → at q ≡ Some y → stays (q, y) ≡ true) (λ q b y e. ap not (is_same-before (name y) (name x) (subst (λ m. IsBefore m (name x)) (name_at-is at q y e) b))) (take i order) before)) in
      let backs : filter stays back ≡ back =
      filter_all stays back
      (All-filed (λ e. stays e ≡ true) at (drop (suc i) order) (All-drop (IsStored at) (suc i) order s)
      (All-weaker (λ q. IsBefore (name x) (name_at name at q)) (λ q. (y : X) → at q ≡ Some y → stays (q, y) ≡ true) (λ q b y e. ap not (is_same-after (name x) (name y) (subst (λ m. IsBefore (name x) m) (name_at-is at q y e) b))) (drop (suc i) order) after)) in
      let gone : filter stays ((k, x) ∷ back) ≡ back = rw (is_same-from (name x) (name x) refl) backs in
      filed-append other (take i order) (drop (suc i) order)
      ∙ ap (λ l. l ++ filed other (drop (suc i) order)) (same_beside at other k None (take i order) sets (apart_before at k x (take i order) h.item before))
      ∙ ap (λ l. front ++ l) (same_beside at other k None (drop (suc i) order) sets (apart_after at k x (drop (suc i) order) h.item after))
      ∙ sym (ap (filter stays) whole ∙ filter-append stays front ((k, x) ∷ back) ∙ ap (λ l. l ++ filter stays ((k, x) ∷ back)) fronts ∙ ap (λ l. front ++ l) gone)

  pub kept_by_drop : (at other : ℕ → Option X) (order : List ℕ) (sought sought' : List ℕ → Option ℕ) (i k : ℕ) (x : X) → IsKept name at order sought → Sets at other k None → StandsAt at order i k x → ((n : List ℕ) → sought' n ≡ cond (is_same (name x) n) None (sought n)) → IsKept name other (remove order i) sought'
  kept_by_drop at other order sought sought' i k x kept sets h updates =
      let is = drop_is at other order i k x kept.stored kept.rise sets h in
      let before = apart_before at k x (take i order) h.item (names_before at order i k x kept.stored kept.rise h) in
      let after = apart_after at k x (drop (suc i) order) h.item (names_after at order i k x kept.stored kept.rise h) in
      record {
        stored =
            All-append (IsStored other) (take i order) (drop (suc i) order)
            (stored_beside at other k None (take i order) sets before (All-take (IsStored at) i order kept.stored))
            (stored_beside at other k None (drop (suc i) order) sets after (All-drop (IsStored at) (suc i) order kept.stored));
        rise = subst (NamesRise (named name)) (sym is) (rise-without name (filed at order) (name x) kept.rise);
        found = λ n.
            updates n ∙ ap (cond (is_same (name x) n) None) (kept.found n) ∙ sym (key_of-without name (filed at order) (name x) n)
            ∙ ap (λ l. key_of name l n) (sym is);
      }

  -- ---- a change

  pub change_is : (at other : ℕ → Option X) (ks : List ℕ) (k : ℕ) (x : X) → All (IsStored at) ks → Sets at other k (Some x) → filed other ks ≡ with_change (filed at ks) k x
  change_is at other [] k x s sets = refl
  change_is at other (q ∷ ks) k x s sets =
      let here = stored_at (at q) (All-head (IsStored at) q ks s) in
      let rest = change_is at other ks k x (All-tail (IsStored at) q ks s) sets in
      let old : with_change ((q, here.0) ∷ filed at ks) k x ≡ with_change (filed at (q ∷ ks)) k x =
      ap (λ l. with_change l k x) (sym (filed-cons at q here.0 ks here.1)) in
      elim (cases_Bool (q == k)) [
        | inl e ↦
            let key = eqb-true q k e in
            let one : (q, x) ∷ with_change (filed at ks) k x ≡ with_change ((q, here.0) ∷ filed at ks) k x = rw (e, key) refl in
            filed-cons other q x ks (ap other key ∙ sets.changed) ∙ ap (λ l. (q, x) ∷ l) rest ∙ one ∙ old
        | inr e ↦
            let apart : q ≢ k = λ same. both_ways (q == k) e (eq-eqb q k same) in
            let one : (q, here.0) ∷ with_change (filed at ks) k x ≡ with_change ((q, here.0) ∷ filed at ks) k x = rw e refl in
            filed-cons other q here.0 ks (sets.others q apart ∙ here.1) ∙ ap (λ l. (q, here.0) ∷ l) rest ∙ one ∙ old
      ]

  -- what stands under the key has the name of the item that takes its place
  keeps_name : (at : ℕ → Option X) (ks : List ℕ) (k : ℕ) (old x : X) → All (IsStored at) ks → at k ≡ Some old → name old ≡ name x → All (KeepsName name k x) (filed at ks)
  keeps_name at ks k old x s e same =
      All-filed (KeepsName name k x) at ks s
      (λ i d l y there key. sym (name_at-is at k y (ap at (sym key) ∙ there)) ∙ name_at-is at k old e ∙ same)

  pub rise-with_change : (items : List (ℕ × X)) (k : ℕ) (x : X) → All (KeepsName name k x) items → NamesRise (named name) items → NamesRise (named name) (with_change items k x)
  rise-with_change items k x keeps rise i j d lt l =
      let change : ℕ × X → ℕ × X = λ e. if e.0 == k then (k, x) else e in
      let long = length-map items change in
      let name_kept : (e : ℕ × X) → KeepsName name k x e → name (change e).1 ≡ name e.1 = λ e h.
      elim (cases_Bool (e.0 == k)) [ inl t ↦ rw t (sym (h (eqb-true e.0 k t))) | inr t ↦ rw t refl ] in
      let last : j < length items = omega arith in
      let first : i < length items = omega arith in
      rw (get_or-map change items i d d first, get_or-map change items j d d last, name_kept (get_or items i d) (keeps i d first), name_kept (get_or items j d) (keeps j d last))
      (rise i j d lt last)

  pub kept_by_change : (at other : ℕ → Option X) (order : List ℕ) (sought : List ℕ → Option ℕ) (k : ℕ) (old x : X) → IsKept name at order sought → Sets at other k (Some x) → at k ≡ Some old → name old ≡ name x → IsKept name other order sought
  kept_by_change at other order sought k old x kept sets e same =
      let is = change_is at other order k x kept.stored sets in
      let keeps = keeps_name at order k old x kept.stored e same in
      record {
        stored = λ i d l.
            elim (cases_eq (get_or order i d) k) [
              | inl here ↦ rw (here, sets.changed) refl
              | inr apart ↦ subst IsSome (sym (sets.others (get_or order i d) apart)) (kept.stored i d l)
            ];
        rise = subst (NamesRise (named name)) (sym is) (rise-with_change (filed at order) k x keeps kept.rise);
        found = λ n. kept.found n ∙ sym (key_of-with_change name (filed at order) k x n keeps) ∙ ap (λ l. key_of name l n) (sym is);
      }

  -- ---- what a table tells

  pub table_is : (at : ℕ → Option X) (order : List ℕ) (sought : List ℕ → Option ℕ) → IsKept name at order sought → IsTable name (filed at order)
  table_is at order sought kept = record {
    rise = kept.rise;
    keys = λ i d l.
        let long = length-filed at order kept.stored in
        let here = filed-at at order i 0 kept.stored (omega arith) in
        let listed = list_any_at (λ q. q == get_or order i 0) order i 0 (omega arith) (eq-eqb (get_or order i 0) (get_or order i 0) refl) in
        rw here.2 (under-filed at order (get_or order i 0) kept.stored ∙ rw listed here.1);
  }

  -- ---- a search

  pub searched_is : (at : ℕ → Option X) (order : List ℕ) (n : List ℕ) (r : Result ℕ ℕ) → All (IsStored at) order → NamesRise (named name) (filed at order) → IsSearchInRange r (length order) → IsBinarySearchResult (λ k. slice_cmp nat_cmp (name_at name at k) n) order r → MatchResult r (IsPositionOf name at order n) (IsPositionFor name at order n)
  searched_is at order n (Ok i) s rise l h =
      let long = length-filed at order s in
      let here = filed-at at order i 0 s l in
      let same : name here.0 ≡ n = sym (name_at-is at (get_or order i 0) here.0 here.1) ∙ exact_bytes (name_at name at (get_or order i 0)) n (h 0) in
      let read : (e : ℕ × X) → name (get_or (filed at order) i e).1 ≡ n = λ e. ap (λ (y : ℕ × X). name y.1) (here.2 e) ∙ same in
      record {
        within = l;
        number = sym (number_of-found (named name) (filed at order) n i rise (omega arith) read);
        there = list_any_at (λ e. is_same (name e.1) n) (filed at order) i (0, here.0) (omega arith) (is_same-from (name (get_or (filed at order) i (0, here.0)).1) n (read (0, here.0)));
        item = here.0;
        under = here.1;
        label = same;
      }
  searched_is at order n (Err i) s rise l h =
      let p = place_searched (name_at name at) order n i (rise_order at order s rise) l h in
      record {
        within = l;
        missing = is_named-place (named name) (filed at order) n i (place_filed at order n i s p);
        below = p.below;
        above = p.above;
      }

  -- the same of a place, as the lemmas on lists take it
  pub place_is : (at : ℕ → Option X) (order : List ℕ) (n : List ℕ) (i : ℕ) → IsPositionFor name at order n i → IsPlace (name_at name at) order n i
  place_is at order n i p = record { within = p.within; below = p.below; above = p.above }

  pub stands_at : (at : ℕ → Option X) (order : List ℕ) (n : List ℕ) (i : ℕ) (p : IsPositionOf name at order n i) → StandsAt at order i (get_or order i 0) p.item
  stands_at at order n i p = record { within = p.within; key = λ d. get_or_default order i d 0 p.within; item = p.under }

  -- the item under a key that is to be changed
  pub old_item : (at : ℕ → Option X) (order : List ℕ) (k : ℕ) (n : List ℕ) → All (IsStored at) order → option_map name (under (filed at order) k) ≡ Some n → (x : X) × (at k ≡ Some x) × (name x ≡ n) × (under (filed at order) k ≡ Some x)
  old_item at order k n s e =
      let old = some_from_map name (under (filed at order) k) n e in
      (old.0, sym (under_slot at order k s (rw old.1 refl)) ∙ old.1, old.2, old.1)

  -- a copy of the parts is a copy of the table
  pub kept_by_copy : (at other : ℕ → Option X) (order order' : List ℕ) (sought sought' : List ℕ → Option ℕ) → IsKept name at order sought → ((k : ℕ) → other k ≡ at k) → order' ≡ order → ((n : List ℕ) → sought' n ≡ sought n) → IsKept name other order' sought'
  kept_by_copy at other order order' sought sought' kept slots same found =
      let is : filed other order ≡ filed at order = filed-same at other order (λ i d l. slots (get_or order i d)) in
      rw same
      (record {
        stored = λ i d l. subst IsSome (sym (slots (get_or order i d))) (kept.stored i d l);
        rise = subst (NamesRise (named name)) (sym is) kept.rise;
        found = λ n. found n ∙ kept.found n ∙ ap (λ l. key_of name l n) (sym is);
      })

  pub item_is : (at : ℕ → Option X) (order : List ℕ) (n : List ℕ) (i : ℕ) (p : IsPositionOf name at order n i) → All (IsStored at) order → item_of name (filed at order) n ≡ Some p.item
  item_is at order n i p s =
      let long = length-filed at order s in
      let here = filed-at at order i 0 s p.within in
      let e : ℕ × X = (0, p.item) in
      let l : i < length order = p.within in
      let same : Some here.0 ≡ Some p.item = sym here.1 ∙ p.under in
      ap (option_map (λ (y : ℕ × X). y.1)) (find_at (λ (y : ℕ × X). is_same (name y.1) n) (filed at order) ∙ ap (slice_get (filed at order)) (sym p.number) ∙ slice_get-get_or (filed at order) i e (omega arith) ∙ ap Some (here.2 e))
      ∙ same
