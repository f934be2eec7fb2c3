-- Parts of lists: what holds of them, and what a search finds.
use Rattle.std.proofs.Common.{◌≡◌, ℕ, suc, Bool, true, ◌==◌, List, [], ◌∷◌, ◌++◌, take, drop, Some, inl, inr, refl, sym, ap, ◌∙◌, subst, arith}
use Rattle.std.specs.Prelude.{All, find, unwrap_or}
use Rattle.std.specs.List.{list_any, position_or_len}
use Rattle.std.proofs.lemmas.Bool.{cases_Bool, or_left, or_right, eq-eqb}
use Rattle.std.proofs.lemmas.List.Elements.{All-nil, All-cons, All-head, All-tail}
use Rattle.plan_model.proofs.MemberTests.{has}

-- ---- what holds of parts

pub all_first : {X : Type 0} (P : X → Type 0) (xs ys : List X) → All P (xs ++ ys) → All P xs
all_first P [] ys h = All-nil P
all_first P (x ∷ xs) ys h = All-cons P x xs (All-head P x (xs ++ ys) h) (all_first P xs ys (All-tail P x (xs ++ ys) h))

pub all_last : {X : Type 0} (P : X → Type 0) (xs ys : List X) → All P (xs ++ ys) → All P ys
all_last P [] ys h = h
all_last P (x ∷ xs) ys h = all_last P xs ys (All-tail P x (xs ++ ys) h)

-- ---- searches

-- the first that passes a test, with those before it and after it
pub record Split (p : ℕ → Bool) (xs : List ℕ) : Type 0 where
  pub before : List ℕ
  pub first : ℕ
  pub after : List ℕ
  pub is : xs ≡ before ++ first ∷ after
  pub passes : p first ≡ true
  pub taken : take (position_or_len p xs) xs ≡ before
  pub dropped : drop (position_or_len p xs) xs ≡ first ∷ after

pub split_at : (p : ℕ → Bool) (xs : List ℕ) → list_any p xs ≡ true → Split p xs
split_at p [] h = absurd (cc)
split_at p (x ∷ xs) h =
    elim (cases_Bool (p x)) [
      | inl e ↦
          let at : position_or_len p (x ∷ xs) ≡ 0 = rw e refl in
          record {
            before = [];
            first = x;
            after = xs;
            is = refl;
            passes = e;
            taken = ap (λ n. take n (x ∷ xs)) at;
            dropped = ap (λ n. drop n (x ∷ xs)) at;
          }
      | inr e ↦
          let rest = split_at p xs (rw e at h) in
          let at : position_or_len p (x ∷ xs) ≡ suc (position_or_len p xs) = rw e (omega arith) in
          record {
            before = x ∷ rest.before;
            first = rest.first;
            after = rest.after;
            is = ap (λ ys. x ∷ ys) rest.is;
            passes = rest.passes;
            taken = ap (λ n. take n (x ∷ xs)) at ∙ ap (λ ys. x ∷ ys) rest.taken;
            dropped = ap (λ n. drop n (x ∷ xs)) at ∙ rest.dropped;
          }
    ]

-- what is found is there, and passes
pub found : (p : ℕ → Bool) (xs : List ℕ) (d : ℕ) → list_any p xs ≡ true
    → (has xs (unwrap_or (find p xs) d) ≡ true) × (p (unwrap_or (find p xs) d) ≡ true)
found p [] d h = absurd (cc)
found p (x ∷ xs) d h =
    elim (cases_Bool (p x)) [
      | inl e ↦
          let is : find p (x ∷ xs) ≡ Some x = rw e refl in
          subst (λ o. (has (x ∷ xs) (unwrap_or o d) ≡ true) × (p (unwrap_or o d) ≡ true)) (sym is)
          (or_left (x == x) (has xs x) (eq-eqb x x refl), e)
      | inr e ↦
          let is : find p (x ∷ xs) ≡ find p xs = rw e refl in
          let rest = found p xs d (rw e at h) in
          subst (λ o. (has (x ∷ xs) (unwrap_or o d) ≡ true) × (p (unwrap_or o d) ≡ true)) (sym is)
          (or_right (x == unwrap_or (find p xs) d) (has xs (unwrap_or (find p xs) d)) rest.0, rest.1)
    ]
