-- Whether a key stands twice in a list.
use Rattle.std.proofs.Common.{◌≡◌, ℕ, ◌+◌, ◌<◌, ◌==◌, Bool, true, false, if◌then◌else◌, ◌||◌, List, [], ◌∷◌, ◌++◌, length, get_or, take, drop, map, refl, sym, ap, ◌∙◌, inl, inr}
use Rattle.std.specs.Prelude.{◌&&◌}
use Rattle.std.specs.List.{list_any}
use Rattle.std.proofs.lemmas.Bool.{cases_Bool, or_cases, or_parts, or_left, or_right, eqb-true, eq-eqb, both_ways, false_from_ne_true}
use Rattle.std.proofs.lemmas.List.{take-append-drop, take_more}
use Rattle.std.proofs.lemmas.List.Folds.{list_any-append, list_any_more}
use Rattle.std.proofs.Math.Bool.{or-false, or_comm, and-or_distrib_left}
use Rattle.rail_model.proofs.Numbers.{eqb-sym}
use Rattle.line_tables.specs.Links.{lists_key, repeats_key}
use Rattle.line_tables.proofs.Found.{list_any-map}

or_swap : (p q r s : Bool) → ((p || (q || false)) || (r || s)) ≡ ((p || r) || (q || s))
or_swap true q r s = refl
or_swap false true true s = refl
or_swap false true false s = refl
or_swap false false r s = refl

repeats-push : (xs : List ℕ) (y : ℕ) → repeats_key (xs ++ y ∷ []) ≡ (repeats_key xs || lists_key xs y)
repeats-push [] y = refl
repeats-push (x ∷ xs) y =
    rw (list_any-append (λ q. q == x) xs (y ∷ []), repeats-push xs y, eqb-sym x y)
    (or_swap (lists_key xs x) (y == x) (repeats_key xs) (lists_key xs y))

repeats-front : (xs ys : List ℕ) → repeats_key xs ≡ true → repeats_key (xs ++ ys) ≡ true
repeats-front [] ys h = absurd (cc)
repeats-front (x ∷ xs) ys h =
    elim (or_cases (lists_key xs x) (repeats_key xs) h) [
      | inl e ↦ or_left (lists_key (xs ++ ys) x) (repeats_key (xs ++ ys)) (list_any-append (λ q. q == x) xs ys ∙ or_left (lists_key xs x) (lists_key ys x) e)
      | inr e ↦ or_right (lists_key (xs ++ ys) x) (repeats_key (xs ++ ys)) (repeats-front xs ys e)
    ]

-- y is the key at i
module _ (keys : List ℕ) (i y : ℕ) (lt : i < length keys) (read : y ≡ get_or keys i y) where
  pub repeats_more : repeats_key (take (i + 1) keys) ≡ (repeats_key (take i keys) || lists_key (take i keys) y)
  repeats_more = rw (take_more keys i y lt, ← read) (repeats-push (take i keys) y)

  pub repeats_found : lists_key (take i keys) y ≡ true → repeats_key keys ≡ true
  repeats_found h =
      ap repeats_key (sym (take-append-drop (i + 1) keys))
      ∙ repeats-front (take (i + 1) keys) (drop (i + 1) keys) (repeats_more ∙ or_right (repeats_key (take i keys)) (lists_key (take i keys) y) h)

-- the keys seen so far, with one more
pub seen_more : (keys : List ℕ) (i k : ℕ) → i < length keys → (before : Bool) → before ≡ lists_key (take i keys) k → ((k == get_or keys i 0) || before) ≡ lists_key (take (i + 1) keys) k
seen_more keys i k l before e =
    rw (e, list_any_more (λ q. q == k) keys i 0 l, eqb-sym k (get_or keys i 0)) (or_comm (get_or keys i 0 == k) (lists_key (take i keys) k))

-- ---- one key of a list whose images don't repeat gets another image

module _ (f : ℕ → ℕ) (key b : ℕ) where
  abbrev pub moved : ℕ → ℕ
  moved q = if q == key then b else f q

  -- where the key isn't listed nothing moves
  not_moved : (keys : List ℕ) → lists_key keys key ≡ false → map moved keys ≡ map f keys
  not_moved [] h = refl
  not_moved (q ∷ keys) h =
      let apart = or_parts (q == key) (lists_key keys key) h in
      rw (apart.0, not_moved keys apart.1) refl

  -- an image is listed among the moved ones where it was or where it is the new one
  moved_lists : (keys : List ℕ) (y : ℕ) → lists_key (map f keys) y ≡ false → lists_key (map moved keys) y ≡ (lists_key keys key && (y == b))
  moved_lists [] y h = refl
  moved_lists (q ∷ keys) y h =
      let apart = or_parts (f q == y) (lists_key (map f keys) y) h in
      let rest = moved_lists keys y apart.1 in
      elim (cases_Bool (q == key)) [
        | inl t ↦ elim (cases_Bool (y == b)) [
          | inl s ↦
              let here : (b == y) ≡ true = eqb-sym b y ∙ s in
              rw (t, here, s) refl
          | inr s ↦
              let here : (b == y) ≡ false = eqb-sym b y ∙ s in
              rw (t, here, rest, s) (elim (cases_Bool (lists_key keys key)) [ inl u ↦ rw u refl | inr u ↦ rw u refl ])
        ]
        | inr t ↦ rw (t, apart.0) rest
      ]

  pub key_once : (keys : List ℕ) (q : ℕ) → (q == key) ≡ true → lists_key (map f keys) (f q) ≡ false → lists_key keys key ≡ false
  key_once keys q t h =
      false_from_ne_true (lists_key keys key)
      (λ listed. both_ways (lists_key (map f keys) (f q)) h (listed_image keys listed (ap f (eqb-true q key t))))
    where
      listed_image : (keys : List ℕ) → lists_key keys key ≡ true → f q ≡ f key → lists_key (map f keys) (f q) ≡ true
      listed_image [] listed e = absurd (cc)
      listed_image (k ∷ keys) listed e =
          elim (or_cases (k == key) (lists_key keys key) listed) [
            | inl here ↦ or_left (f k == f q) (lists_key (map f keys) (f q)) (eq-eqb (f k) (f q) (ap f (eqb-true k key here) ∙ sym e))
            | inr there ↦ or_right (f k == f q) (lists_key (map f keys) (f q)) (listed_image keys there e)
          ]

  pub repeats_moved : (keys : List ℕ) → (f key == b) ≡ false → repeats_key (map f keys) ≡ false → repeats_key (map moved keys) ≡ (lists_key keys key && list_any (λ q. f q == b) keys)
  repeats_moved [] other h = refl
  repeats_moved (q ∷ keys) other h =
      let apart = or_parts (lists_key (map f keys) (f q)) (repeats_key (map f keys)) h in
      let rest = repeats_moved keys other apart.1 in
      elim (cases_Bool (q == key)) [
        | inl t ↦
            let once = key_once keys q t apart.0 in
            let key_is = eqb-true q key t in
            let image : (f q == b) ≡ false = ap (λ k. f k == b) key_is ∙ other in
            let same = not_moved keys once in
            let none : (lists_key (map f keys) b || false) ≡ list_any (λ q. f q == b) keys = or-false (lists_key (map f keys) b) ∙ list_any-map f (λ y. y == b) keys in
            rw (t, same, apart.1, image) none
        | inr t ↦
            rw (t, moved_lists keys (f q) apart.0, rest) (sym (and-or_distrib_left (lists_key keys key) (f q == b) (list_any (λ q. f q == b) keys)))
      ]
