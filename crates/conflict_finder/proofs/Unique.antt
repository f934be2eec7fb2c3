-- A timetable has one list of conflicts.
use Rattle.std.proofs.Common.{◌≡◌, ◌⊎◌, ℕ, zero, suc, ◌-◌, List, [], ◌∷◌, length, map, refl, sym, ap, ◌∙◌, subst, inl, inr, arith}
use Rattle.std.specs.Prelude.{ℤ, take}
use Rattle.std.specs.List.{AllPairs, Contains}
use Rattle.std.proofs.lemmas.Int.{ints}
use Rattle.rail_model.specs.Conflict as whole
use Rattle.rail_model.specs.Conflict.{ComesBefore, IsListedBefore}
use Rattle.rail_model.proofs.NameOrder.{never_before_itself, IsBefore-trans}
use Rattle.conflict_finder.specs.declared.found.TheConstants.{LISTED}
use Rattle.conflict_finder.specs.Found.{as_listed}
use Rattle.conflict_finder.specs.Laws.{ConflictsAreUnique, FoundIsUnique}

-- ---- of two conflicts at most one is listed before the other

not_back : (s t : ℤ) (a b : List ℕ) → ComesBefore s a t b → ComesBefore t b s a → ⊥
not_back s t a b (inl l) (inl m) = omega (arith, ints)
not_back s t a b (inl l) (inr (e, m)) = omega (arith, ints)
not_back s t a b (inr (e, l)) (inl m) = omega (arith, ints)
not_back s t a b (inr (e, l)) (inr (f, m)) = never_before_itself a (IsBefore-trans a b a l m)

not_listed_back : (c d : whole.Conflict) → IsListedBefore c d → IsListedBefore d c → ⊥
not_listed_back c d (inl l) (inl m) = omega (arith, l, m)
not_listed_back c d (inl l) (inr (e, m)) = omega (arith, l, e)
not_listed_back c d (inr (e, l)) (inl m) = omega (arith, e, m)
not_listed_back c d (inr (e, inl l)) (inr (f, inl m)) = not_back c.first_start d.first_start c.first d.first l m
not_listed_back c d (inr (e, inl l)) (inr (f, inr (s, n, m))) =
    let itself : ComesBefore c.first_start c.first c.first_start c.first = rw (s, n) at l in
    not_back c.first_start c.first_start c.first c.first itself itself
not_listed_back c d (inr (e, inr (s, n, l))) (inr (f, inl m)) =
    let itself : ComesBefore d.first_start d.first d.first_start d.first = rw (s, n) at m in
    not_back d.first_start d.first_start d.first d.first itself itself
not_listed_back c d (inr (e, inr (s, n, l))) (inr (f, inr (t, o, m))) = not_back c.from d.from c.second d.second l m

-- ---- two lists that have the same items in one order are equal

first_or_rest : {X : Type 0} (y : X) (ys : List X) (x : X) → Contains (y ∷ ys) x → (y ≡ x) ⊎ Contains ys x
first_or_rest y ys x (zero, below, same) = inl same
first_or_rest y ys x (suc k, below, same) = inr (k, omega (arith, below), same)

module _ {X : Type 0} (R : X → X → Type 0) (never_both : (x y : X) → R x y → R y x → ⊥) where
  -- the first comes before each of the rest
  first_before : (x : X) (xs : List X) → AllPairs R (x ∷ xs) → (y : X) → Contains xs y → R x y
  first_before x xs order y (k, below, same) =
      subst (R x) same (order 0 (suc k) y (omega arith) (omega (arith, below)))

  same_first : (x : X) (xs : List X) (y : X) (ys : List X) → AllPairs R (x ∷ xs) → AllPairs R (y ∷ ys)
      → Contains (y ∷ ys) x → Contains (x ∷ xs) y → x ≡ y
  same_first x xs y ys order other to from =
      elim (first_or_rest y ys x to) [
        | inl e ↦ sym e
        | inr later ↦
            elim (first_or_rest x xs y from) [
              | inl e ↦ e
              | inr l ↦ absurd (never_both x y (first_before x xs order y l) (first_before y ys other x later))
            ]
      ]

  rest_in : (x : X) (xs : List X) (y : X) (ys : List X) → AllPairs R (x ∷ xs) → x ≡ y
      → ((z : X) → Contains (x ∷ xs) z → Contains (y ∷ ys) z) → (z : X) → Contains xs z → Contains ys z
  rest_in x xs y ys order same to z (k, below, is) =
      elim (first_or_rest y ys z (to z (suc k, omega (arith, below), is))) [
        | inl e ↦
            let before : R x z = first_before x xs order z (k, below, is) in
            let itself : R x x = subst (R x) (sym (same ∙ e)) before in
            absurd (never_both x x itself itself)
        | inr there ↦ there
      ]

  same_list : (xs ys : List X) → AllPairs R xs → AllPairs R ys → ((z : X) → Contains xs z → Contains ys z)
      → ((z : X) → Contains ys z → Contains xs z) → xs ≡ ys
  same_list [] [] order other to from = refl
  same_list [] (y ∷ ys) order other to from = absurd (let none = from y (0, omega arith, refl) in omega (arith, none.1))
  same_list (x ∷ xs) [] order other to from = absurd (let none = to x (0, omega arith, refl) in omega (arith, none.1))
  same_list (x ∷ xs) (y ∷ ys) order other to from =
      let same = same_first x xs y ys order other (to x (0, omega arith, refl)) (from y (0, omega arith, refl)) in
      let rest =
      same_list xs ys (λ i j d before below. order (suc i) (suc j) d (omega (arith, before)) (omega (arith, below)))
      (λ i j d before below. other (suc i) (suc j) d (omega (arith, before)) (omega (arith, below)))
      (rest_in x xs y ys order same to) (rest_in y ys x xs other (sym same) from) in
      λ i. same i ∷ rest i

pub conflicts_are_unique : ConflictsAreUnique
conflicts_are_unique stairs list other is others =
    same_list IsListedBefore not_listed_back list other is.order others.order
    (λ c there. (others.each c).1 ((is.each c).0 there)) (λ c there. (is.each c).1 ((others.each c).0 there))

pub found_is_unique : FoundIsUnique
found_is_unique stairs found other is others =
    let all = conflicts_are_unique stairs is.all others.all is.are others.are in
    let list : found.list ≡ other.list = is.list ∙ ap (λ c. map as_listed (take LISTED c)) all ∙ sym others.list in
    let more : found.more ≡ other.more = is.more ∙ ap (λ c. length c - LISTED) all ∙ sym others.more in
    λ i. record { list = list i; more = more i }
