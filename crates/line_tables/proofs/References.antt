-- References between two tables after an edit of either.
use Rattle.std.proofs.Common.{◌≡◌, ◌≢◌, ℕ, ◌+◌, ◌==◌, Bool, true, false, not, cond, if◌then◌else◌, List, [], ◌∷◌, get_or, Option, Some, refl, sym, ap, ◌∙◌, inl, inr, arith, zero-add}
use Rattle.std.specs.Prelude.{map, All, sum_by, nat_lt}
use Rattle.std.specs.List.{list_any}
use Rattle.std.proofs.lemmas.Bool.{cases_Bool, both_ways, eqb-true, eq-eqb}
use Rattle.std.proofs.lemmas.Bool.Decides.{nat_tests}
use Rattle.std.proofs.lemmas.List.Elements.{All-nil, All-cons, All-head, All-tail, All-weaker, All-filter, All-map}
use Rattle.std.proofs.lemmas.List.Sums.{sum_by-cons}
use Rattle.rail_model.specs.Name.{is_same}
use Rattle.rail_model.specs.Rules.{with_item, without}
use Rattle.rail_model.proofs.NameOrder.{same_name, is_same-from}
use Rattle.rail_model.proofs.Members.{All-with_item}
use Rattle.line_tables.specs.declared.linked.Linked.{Linked}
use Rattle.line_tables.specs.Table.{with_change, named, key_of, IsTable}
use Rattle.line_tables.specs.KeyCounts.{times}
use Rattle.line_tables.specs.Links.{IsLinked, references, lists_key}
use Rattle.line_tables.proofs.Found.{name_of_key}

-- an item with the keys that it refers to
abbrev pub entry : {A : Type 0} → A → List ℕ → Linked A
entry x refs = record { item = x; refs = refs }

-- ---- lists of names and of their keys

-- a key more, counted and not counted
times_yes : (k j : ℕ) (ks : List ℕ) → (j == k) ≡ true → times k (j ∷ ks) ≡ 1 + times k ks
times_yes k j ks e = sum_by-cons (λ q. cond (q == k) 1 0) j ks ∙ rw e refl

times_no : (k j : ℕ) (ks : List ℕ) → (j == k) ≡ false → times k (j ∷ ks) ≡ times k ks
times_no k j ks e = sum_by-cons (λ q. cond (q == k) 1 0) j ks ∙ rw e (zero-add (times k ks))

-- keys that a second look-up finds as the first does
pub keys_kept : (f g : List ℕ → Option ℕ) (k : ℕ) (ns : List (List ℕ)) (ks : List ℕ) → ((n : List ℕ) (j : ℕ) → j ≢ k → f n ≡ Some j → g n ≡ Some j) → times k ks ≡ 0 → map f ns ≡ map Some ks → map g ns ≡ map Some ks
keys_kept f g k [] [] keeps none e = refl
keys_kept f g k [] (j ∷ ks) keeps none e = absurd (cc)
keys_kept f g k (n ∷ ns) [] keeps none e = absurd (cc)
keys_kept f g k (n ∷ ns) (j ∷ ks) keeps none e =
    let first : f n ≡ Some j = cc in
    let rest : map f ns ≡ map Some ks = cc in
    elim (cases_Bool (j == k)) [
      | inl t ↦ absurd (omega (arith, none, times_yes k j ks t))
      | inr t ↦
          let apart : j ≢ k = λ same. both_ways (j == k) t (eq-eqb j k same) in
          rw (keeps n j apart first, keys_kept f g k ns ks keeps (sym (times_no k j ks t) ∙ none) rest) refl
    ]

pub keys_same : (f g : List ℕ → Option ℕ) (ns : List (List ℕ)) (ks : List ℕ) → ((n : List ℕ) (j : ℕ) → f n ≡ Some j → g n ≡ Some j) → map f ns ≡ map Some ks → map g ns ≡ map Some ks
keys_same f g [] [] keeps e = refl
keys_same f g [] (j ∷ ks) keeps e = absurd (cc)
keys_same f g (n ∷ ns) [] keeps e = absurd (cc)
keys_same f g (n ∷ ns) (j ∷ ks) keeps e =
    let first : f n ≡ Some j = cc in
    let rest : map f ns ≡ map Some ks = cc in
    rw (keeps n j first, keys_same f g ns ks keeps rest) refl

-- a name is one of the names where its key is one of the keys
pub named_listed : {B : Type 0} (name : B → List ℕ) (used : List (ℕ × B)) (n : List ℕ) (k : ℕ) (ns : List (List ℕ)) (ks : List ℕ) → IsTable name used → key_of name used n ≡ Some k → map (key_of name used) ns ≡ map Some ks → list_any (λ m. is_same m n) ns ≡ lists_key ks k
named_listed name used n k [] [] table key e = refl
named_listed name used n k [] (j ∷ ks) table key e = absurd (cc)
named_listed name used n k (m ∷ ns) [] table key e = absurd (cc)
named_listed name used n k (m ∷ ns) (j ∷ ks) table key e =
    let first : key_of name used m ≡ Some j = cc in
    let rest : map (key_of name used) ns ≡ map Some ks = cc in
    elim (cases_Bool (is_same m n)) [
      | inl s ↦
          let both : Some j ≡ Some k = sym first ∙ ap (key_of name used) (same_name m n s) ∙ key in
          let here : j ≡ k = cc in
          rw (s, eq-eqb j k here) refl
      | inr s ↦
          let apart : (j == k) ≡ false =
          elim (cases_Bool (j == k)) [
            | inl t ↦
                let one : key_of name used m ≡ Some k = first ∙ ap Some (eqb-true j k t) in
                absurd (both_ways (is_same m n) s (is_same-from m n (name_of_key name used m n k table one key)))
            | inr t ↦ t
          ] in
          rw (s, apart) (named_listed name used n k ns ks table key rest)
    ]

-- some part of a sum is above 0 where the sum is
pub positive_sum : {X : Type 0} (f : X → ℕ) (xs : List X) → nat_lt 0 (sum_by f xs) ≡ list_any (λ x. nat_lt 0 (f x)) xs
positive_sum f [] = refl
positive_sum f (x ∷ xs) =
    let rest = positive_sum f xs in
    let count = sum_by-cons f x xs in
    elim (cases_Bool (nat_lt 0 (f x))) [
      | inl t ↦
          let some : nat_lt 0 (sum_by f (x ∷ xs)) ≡ true = grind (arith, nat_tests) in
          rw (t, some) refl
      | inr t ↦
          let same : sum_by f (x ∷ xs) ≡ sum_by f xs = grind (arith, nat_tests) in
          rw (t, same) rest
    ]

pub list_any_same : {X : Type 0} (p q : X → Bool) (xs : List X) → All (λ x. p x ≡ q x) xs → list_any p xs ≡ list_any q xs
list_any_same p q [] h = refl
list_any_same p q (x ∷ xs) h =
    rw (All-head (λ x. p x ≡ q x) x xs h, list_any_same p q xs (All-tail (λ x. p x ≡ q x) x xs h)) refl

one_or_none : (b : Bool) → nat_lt 0 (cond b 1 0) ≡ b
one_or_none true = refl
one_or_none false = refl

named_counted : {B : Type 0} (name : B → List ℕ) (used : List (ℕ × B)) (n : List ℕ) (k : ℕ) (ns : List (List ℕ)) (ks : List ℕ) → IsTable name used → key_of name used n ≡ Some k → map (key_of name used) ns ≡ map Some ks → list_any (λ m. is_same m n) ns ≡ nat_lt 0 (times k ks)
named_counted name used n k ns ks table key e =
    named_listed name used n k ns ks table key e
    ∙ sym (positive_sum (λ q. cond (q == k) 1 0) ks ∙ list_any_same (λ q. nat_lt 0 (cond (q == k) 1 0)) (λ q. q == k) ks (λ i d l. one_or_none (get_or ks i d == k)))

module _ {A B : Type 0} (names : A → List (List ℕ)) (label : A → List ℕ) (name : B → List ℕ) where
  -- this user's keys are those of the items that it names
  abbrev IsLinkedOne : List (ℕ × B) → ℕ × Linked A → Type 0
  IsLinkedOne used u = map (key_of name used) (names u.1.item) ≡ map Some u.1.refs

  abbrev user_name : Linked A → List ℕ
  user_name e = label e.item

  -- ---- an edit of the users

  pub linked_by_put : (users : List (ℕ × Linked A)) (used : List (ℕ × B)) (k : ℕ) (x : A) (refs : List ℕ) → IsLinked names name users used → map (key_of name used) (names x) ≡ map Some refs → IsLinked names name (with_item (named user_name) users (k, entry x refs)) used
  linked_by_put users used k x refs linked found =
      All-with_item (named user_name) users (k, entry x refs) (IsLinkedOne used) found linked

  pub linked_by_change : (users : List (ℕ × Linked A)) (used : List (ℕ × B)) (k : ℕ) (x : A) (refs : List ℕ) → IsLinked names name users used → map (key_of name used) (names x) ≡ map Some refs → IsLinked names name (with_change users k (entry x refs)) used
  linked_by_change users used k x refs linked found =
      let change : ℕ × Linked A → ℕ × Linked A = λ u. if u.0 == k then (k, entry x refs) else u in
      All-map (IsLinkedOne used) change users
      (All-weaker (IsLinkedOne used) (λ u. IsLinkedOne used (change u)) (λ u h. elim (cases_Bool (u.0 == k)) [ inl t ↦ rw t found | inr t ↦ rw t h ]) users linked)

  pub linked_by_drop : (users : List (ℕ × Linked A)) (used : List (ℕ × B)) (n : List ℕ) → IsLinked names name users used → IsLinked names name (without (named user_name) users n) used
  linked_by_drop users used n linked = All-filter (λ u. not (is_same (label u.1.item) n)) (IsLinkedOne used) users linked

  -- ---- an edit of what they use

  pub linked_to_same : (users : List (ℕ × Linked A)) (used used' : List (ℕ × B)) → IsLinked names name users used → ((n : List ℕ) (j : ℕ) → key_of name used n ≡ Some j → key_of name used' n ≡ Some j) → IsLinked names name users used'
  linked_to_same users used used' linked keeps =
      All-weaker (IsLinkedOne used) (IsLinkedOne used') (λ u h. keys_same (key_of name used) (key_of name used') (names u.1.item) u.1.refs keeps h) users linked

  -- nobody refers to the key that goes
  pub linked_to_rest : (users : List (ℕ × Linked A)) (used used' : List (ℕ × B)) (k : ℕ) → IsLinked names name users used → references users k ≡ 0 → ((n : List ℕ) (j : ℕ) → j ≢ k → key_of name used n ≡ Some j → key_of name used' n ≡ Some j) → IsLinked names name users used'
  linked_to_rest [] used used' k linked none keeps = All-nil (IsLinkedOne used')
  linked_to_rest (u ∷ users) used used' k linked none keeps =
      let count = sum_by-cons (λ (u : ℕ × Linked A). times k u.1.refs) u users in
      All-cons (IsLinkedOne used') u users
      (keys_kept (key_of name used) (key_of name used') k (names u.1.item) u.1.refs keeps (omega arith) (All-head (IsLinkedOne used) u users linked))
      (linked_to_rest users used used' k (All-tail (IsLinkedOne used) u users linked) (omega arith) keeps)

  -- ---- who refers to a key

  pub references_tell : (users : List (ℕ × Linked A)) (used : List (ℕ × B)) (n : List ℕ) (k : ℕ) → IsTable name used → IsLinked names name users used → key_of name used n ≡ Some k → list_any (λ u. list_any (λ m. is_same m n) (names u.1.item)) users ≡ nat_lt 0 (references users k)
  references_tell users used n k table linked key =
      list_any_same (λ u. list_any (λ m. is_same m n) (names u.1.item)) (λ u. nat_lt 0 (times k u.1.refs)) users
      (All-weaker (IsLinkedOne used) (λ u. list_any (λ m. is_same m n) (names u.1.item) ≡ nat_lt 0 (times k u.1.refs)) (λ u h. named_counted name used n k (names u.1.item) u.1.refs table key h) users linked)
      ∙ sym (positive_sum (λ (u : ℕ × Linked A). times k u.1.refs) users)
