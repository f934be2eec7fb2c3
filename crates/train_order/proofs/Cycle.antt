-- A ring that is turned round and told from another member on is still a ring.
use Rattle.std.proofs.Common.{◌≡◌, ℕ, suc, ◌+◌, ◌-◌, ◌<◌, ◌≤◌, true, false, List, [], ◌∷◌, ◌++◌, map, length, take, drop, get_or, inl, inr, refl, sym, ap, subst, ◌∙◌, arith, length-append, length-drop}
use Rattle.std.specs.Prelude.{reverse, nat_lt, if◌then◌else◌}
use Rattle.std.specs.List.{zip}
use Rattle.std.proofs.lemmas.Bool.{cases_lt, lt-ltb, le-ltb}
use Rattle.std.proofs.lemmas.Slice.Zip.{length-zip, get_or-zip}
use Rattle.std.proofs.lemmas.List.{take_more, take_all, map-append, length-take-le, length-reverse, get_or-take, get_or-drop, get_or-reverse, get_or_append_left, get_or-append_right}
use Rattle.plan_model.specs.declared.cut.Cut.{Cut}
use Rattle.plan_model.specs.Members.{member_count, precedes_somewhere}
use Rattle.train_order.specs.declared.member_set.MemberSet.{MemberSet}
use Rattle.train_order.specs.Sets.{ArePreceded}
use Rattle.train_order.specs.Walk.{step, steps, ArePrecededWithin, IsRound, IsNext, IsRing}
use Rattle.train_order.proofs.Walks.{step_in}

-- ---- from another place on

-- the place that a place of the turned list had
abbrev was_at : ℕ → ℕ → ℕ → ℕ
was_at n s k = if nat_lt k (n - s) then s + k else k - (n - s)

was_low : (n s k : ℕ) → k < n - s → was_at n s k ≡ s + k
was_low n s k l = let t : nat_lt k (n - s) ≡ true = lt-ltb k (n - s) l in rw t refl

was_high : (n s k : ℕ) → n - s ≤ k → was_at n s k ≡ k - (n - s)
was_high n s k l = let t : nat_lt k (n - s) ≡ false = le-ltb k (n - s) l in rw t refl

was_within : (n s k : ℕ) → s < n → k < n → was_at n s k < n
was_within n s k l lk =
    elim (cases_lt k (n - s)) [
      | inl lt ↦ rw (was_low n s k lt) (omega (arith, lt))
      | inr le ↦ rw (was_high n s k le) (omega (arith, le))
    ]

was_next : (n s k m : ℕ) → s < n → k < n → m < n → IsNext n k m → IsNext n (was_at n s k) (was_at n s m)
was_next n s k m l lk lm h =
    elim h [
      | inl e ↦ elim (cases_lt k (n - s)) [
        | inl lo ↦ elim (cases_lt m (n - s)) [
          | inl lo' ↦ inl (omega (arith, was_low n s k lo, was_low n s m lo', e))
          | inr hi ↦ inr (omega (arith, was_low n s k lo, lo, hi, e), omega (arith, was_high n s m hi, lo, hi, e))
        ]
        | inr hi ↦
            let hi' : n - s ≤ m = omega (arith, hi, e) in inl (omega (arith, was_high n s k hi, was_high n s m hi', hi, e))
      ]
      | inr e ↦
          let lo' : m < n - s = omega (arith, e.1) in
          elim (cases_lt k (n - s)) [
            | inl lo ↦ inr (omega (arith, was_low n s k lo, lo, e.0), omega (arith, was_low n s m lo', lo, e.0, e.1))
            | inr hi ↦ inl (omega (arith, was_high n s k hi, was_low n s m lo', hi, e.0, e.1))
          ]
    ]

turned_at : (s : ℕ) (ms : List ℕ) (k : ℕ) → s ≤ length ms → k < length ms
    → get_or (drop s ms ++ take s ms) k 0 ≡ get_or ms (was_at (length ms) s k) 0
turned_at s ms k l lk =
    let front : length (drop s ms) ≡ length ms - s = length-drop s ms in
    elim (cases_lt k (length ms - s)) [
      | inl lt ↦
          let t : nat_lt k (length ms - s) ≡ true = lt-ltb k (length ms - s) lt in
          rw t (get_or_append_left (drop s ms) (take s ms) 0 k (omega (arith, lt, front)) ∙ get_or-drop s ms k 0)
      | inr le ↦
          let t : nat_lt k (length ms - s) ≡ false = le-ltb k (length ms - s) le in
          rw t (get_or-append_right (drop s ms) (take s ms) (length ms - s) k 0 front le ∙ get_or-take s ms (k - (length ms - s)) 0 (omega (arith, le, lk, l)))
    ]

turned_length : (s : ℕ) (ms : List ℕ) → s ≤ length ms → length (drop s ms ++ take s ms) ≡ length ms
turned_length s ms l = omega (arith, length-append (drop s ms) (take s ms), length-drop s ms, length-take-le s ms (omega arith))

pub ring_turned : (cut : Cut) (ms : List ℕ) (s : ℕ) → s < length ms → IsRing cut ms → IsRing cut (drop s ms ++ take s ms)
ring_turned cut ms s l ring =
    let at_most : s ≤ length ms = omega arith in
    let long = turned_length s ms at_most in
    record {
      some = omega (arith, long, ring.some);
      there = λ k lk.
          let here : k < length ms = omega (arith, lk, long) in
          subst (λ x. x < member_count cut) (sym (turned_at s ms k at_most here)) (ring.there _ (was_within (length ms) s k l here));
      precedes = λ k m lk lm h.
          let here : k < length ms = omega (arith, lk, long) in
          let there : m < length ms = omega (arith, lm, long) in
          let h' : IsNext (length ms) k m = subst (λ n. IsNext n k m) long h in
          ap (λ x. precedes_somewhere cut x (get_or (drop s ms ++ take s ms) m 0)) (turned_at s ms k at_most here)
          ∙ ap (λ x. precedes_somewhere cut (get_or ms (was_at (length ms) s k) 0) x) (turned_at s ms m at_most there)
          ∙ ring.precedes _ _ (was_within (length ms) s k l here) (was_within (length ms) s m l there) (was_next (length ms) s k m l here there h');
    }

-- ---- each with the next

next_at : (ms : List ℕ) (k m : ℕ) → k < length ms → m < length ms → IsNext (length ms) k m
    → get_or (drop 1 ms ++ take 1 ms) k 0 ≡ get_or ms m 0
next_at ms k m l lm h =
    turned_at 1 ms k (omega arith) l
    ∙ ap (λ j. get_or ms j 0) (elim h [
      | inl e ↦ elim (cases_lt k (length ms - 1)) [
        | inl lo ↦ was_low (length ms) 1 k lo ∙ omega (arith, e)
        | inr hi ↦ absurd (omega (arith, e, lm, hi))
      ]
      | inr e ↦
          let hi : length ms - 1 ≤ k = omega (arith, e.0) in was_high (length ms) 1 k hi ∙ omega (arith, e.0, e.1)
    ])

module _ {Y : Type 0} (f : ℕ × ℕ → Y) (ms : List ℕ) (some : 0 < length ms) where
  abbrev each_next : List (ℕ × ℕ)
  each_next = zip ms (drop 1 ms ++ take 1 ms)

  pairs_long : length each_next ≡ length ms
  pairs_long = length-zip ms (drop 1 ms ++ take 1 ms) ∙ omega (arith, turned_length 1 ms (omega arith))

  -- one pair more
  pub pairs_more : (k m : ℕ) → k < length ms → m < length ms → IsNext (length ms) k m
      → map f (take (k + 1) each_next) ≡ map f (take k each_next) ++ f (get_or ms k 0, get_or ms m 0) ∷ []
  pairs_more k m l lm h =
      let pair : get_or each_next k (0, 0) ≡ (get_or ms k 0, get_or ms m 0) =
      get_or-zip ms (drop 1 ms ++ take 1 ms) k (0, 0) l (omega (arith, l, turned_length 1 ms (omega arith)))
      ∙ ap (λ x. (get_or ms k 0, x)) (next_at ms k m l lm h) in
      ap (map f) (take_more each_next k (0, 0) (omega (arith, l, pairs_long)))
      ∙ map-append f (take k each_next) (get_or each_next k (0, 0) ∷ [])
      ∙ ap (λ p. map f (take k each_next) ++ f p ∷ []) pair

  pub pairs_all : (k : ℕ) → length ms ≤ k → map f (take k each_next) ≡ map f each_next
  pairs_all k l = ap (map f) (take_all k each_next (omega (arith, l, pairs_long)))

-- ---- the other way round

back_next : (n k m : ℕ) → k < n → m < n → IsNext n k m → IsNext n (n - 1 - m) (n - 1 - k)
back_next n k m lk lm h = elim h [ inl e ↦ inl (omega (arith, e)) | inr e ↦ inr (omega (arith, e.0, e.1), omega (arith, e.0)) ]

pub ring_back : (cut : Cut) (ms : List ℕ) → 0 < length ms → ((k : ℕ) → k < length ms → get_or ms k 0 < member_count cut)
    → ((k m : ℕ) → k < length ms → m < length ms → IsNext (length ms) k m → precedes_somewhere cut (get_or ms m 0) (get_or ms k 0) ≡ true)
    → IsRing cut (reverse ms)
ring_back cut ms some there follows =
    let long : length (reverse ms) ≡ length ms = length-reverse ms in
    record {
      some = omega (arith, long);
      there = λ k lk.
          let here : k < length ms = omega (arith, lk, long) in
          subst (λ x. x < member_count cut) (sym (get_or-reverse ms k 0 here)) (there (length ms - 1 - k) (omega (arith, here)));
      precedes = λ k m lk lm h.
          let here : k < length ms = omega (arith, lk, long) in
          let next : m < length ms = omega (arith, lm, long) in
          let h' : IsNext (length ms) k m = subst (λ n. IsNext n k m) long h in
          ap (λ x. precedes_somewhere cut x (get_or (reverse ms) m 0)) (get_or-reverse ms k 0 here)
          ∙ ap (λ x. precedes_somewhere cut (get_or ms (length ms - 1 - k) 0) x) (get_or-reverse ms m 0 next)
          ∙ follows (length ms - 1 - m) (length ms - 1 - k) (omega (arith, next)) (omega (arith, here)) (back_next (length ms) k m here next h');
    }

-- ---- the circuit of a walk

module _ (cut : Cut) (sets : List MemberSet) (left : List ℕ) (told : ArePreceded cut sets)
    (preceded : ArePrecededWithin sets left) (walked : List ℕ) (from : ℕ) (round : IsRound sets left walked from) where
  abbrev circuit : List ℕ
  circuit = drop from walked

  long : length circuit ≡ length walked - from
  long = length-drop from walked

  at : (k : ℕ) → get_or circuit k 0 ≡ get_or walked (from + k) 0
  at k = get_or-drop from walked k 0

  below : (j : ℕ) → j < length walked → get_or walked j 0 < member_count cut
  below j l = omega (arith, preceded.there _ (round.is_walk.within j l), told.count)

  -- the next of a step precedes it
  precedes_it : (j x : ℕ) → j < length walked → x ≡ step sets left (get_or walked j 0) → precedes_somewhere cut x (get_or walked j 0) ≡ true
  precedes_it j x l e =
      let s = step_in sets left preceded (get_or walked j 0) (round.is_walk.within j l) in
      let y = step sets left (get_or walked j 0) in
      subst (λ z. precedes_somewhere cut z (get_or walked j 0) ≡ true) (sym e)
      (sym (told.each y (get_or walked j 0) (omega (arith, preceded.there y s.0, told.count)) (below j l)) ∙ s.1)

  step_at : (j : ℕ) → j < length walked → step sets left (get_or walked j 0) ≡ steps sets left (suc j) (get_or left 0 0)
  step_at j l = ap (step sets left) (round.is_walk.each j l)

  follows : (k m : ℕ) → k < length circuit → m < length circuit → IsNext (length circuit) k m
      → precedes_somewhere cut (get_or circuit m 0) (get_or circuit k 0) ≡ true
  follows k m lk lm h =
      let here : from + k < length walked = omega (arith, lk, long) in
      let next : get_or circuit m 0 ≡ step sets left (get_or walked (from + k) 0) =
      elim h [
        | inl e ↦
            at m ∙ ap (λ j. get_or walked j 0) (let s : from + m ≡ suc (from + k) = omega (arith, e) in s)
            ∙ round.is_walk.each (suc (from + k)) (omega (arith, e, lm, long)) ∙ sym (step_at (from + k) here)
        | inr e ↦
            ap (λ j. get_or circuit j 0) e.1 ∙ at 0 ∙ ap (λ j. get_or walked j 0) (let s : from + 0 ≡ from = omega arith in s)
            ∙ round.is_walk.after_is
            ∙ ap (λ j. steps sets left j (get_or left 0 0)) (let s : length walked ≡ suc (from + k) = omega (arith, e.0, long, round.came) in s)
            ∙ sym (step_at (from + k) here)
      ] in
      subst (λ z. precedes_somewhere cut (get_or circuit m 0) z ≡ true) (sym (at k)) (precedes_it (from + k) (get_or circuit m 0) here next)

  pub ring_of_walk : IsRing cut (reverse circuit)
  ring_of_walk =
      ring_back cut circuit (omega (arith, long, round.came))
      (λ k l. subst (λ x. x < member_count cut) (sym (at k)) (below (from + k) (omega (arith, l, long)))) follows
