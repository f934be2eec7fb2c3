-- Visits that are walked in their order: the set of each visitor takes in those before it.
use Rattle.std.proofs.Common.{◌≡◌, ℕ, ◌+◌, ◌<◌, Bool, true, false, ◌&&◌, ◌||◌, ◌==◌, List, [], ◌∷◌, ◌++◌, length, take, get_or, set, inl, inr, refl, sym, ap, subst, ◌∙◌}
use Rattle.std.specs.List.{list_any}
use Rattle.std.proofs.lemmas.Bool.{cases_eq, eq-eqb, ne_eqb, and_right}
use Rattle.std.proofs.lemmas.List.{get_or-set_same, get_or-set_other, take_more}
use Rattle.std.proofs.lemmas.List.Folds.{list_any-append}
use Rattle.std.proofs.Math.Bool.{or_assoc, or-false, and-true}
use Rattle.train_order.proofs.Among.{among_put}
use Rattle.train_order.specs.declared.member_set.MemberSet.{MemberSet}
use Rattle.train_order.specs.declared.visits.Visit.{Visit}
use Rattle.train_order.specs.Sets.{holds, no_set, relates}
use Rattle.train_order.specs.Visits.{no_visit, comes_first}

abbrev any : List Visit → ℕ → Bool
any visits i = list_any (λ v. v.member == i) visits

-- a visit more: the first of two is before it or is the new one's
either : (a b c d e : Bool) → ((a && (b || c)) || (d || (e && c))) ≡ (((a && b) || d) || ((a || e) && c))
either true true c d e = refl
either true false true true e = refl
either true false true false e = refl
either true false false true e = refl
either true false false false true = refl
either true false false false false = refl
either false b c d e = refl

first_more : (visits : List Visit) (v : Visit) (i j : ℕ)
    → comes_first (visits ++ v ∷ []) i j ≡ (comes_first visits i j || (any visits i && (v.member == j)))
first_more [] v i j = or-false _ ∙ and_right (v.member == i) false refl
first_more (w ∷ visits) v i j =
    ap (λ b. ((w.member == i) && b) || comes_first (visits ++ v ∷ []) i j)
    (list_any-append (λ (x : Visit). x.member == j) visits (v ∷ []) ∙ ap (λ b. any visits j || b) (or-false (v.member == j)))
    ∙ ap (λ b. ((w.member == i) && (any visits j || (v.member == j))) || b) (first_more visits v i j)
    ∙ either (w.member == i) (any visits j) (v.member == j) (comes_first visits i j) (any visits i)

module _ (visits : List Visit) (at : ℕ) (l : at < length visits) where
  abbrev v : Visit
  v = get_or visits at no_visit

  abbrev before : List Visit
  before = take at visits

  pub earlier_more : (old new : List ℕ) → ((k : ℕ) → holds old k ≡ any before k)
      → ((k : ℕ) → holds new k ≡ ((v.member == k) || holds old k)) → (k : ℕ) → holds new k ≡ any (take (at + 1) visits) k
  earlier_more old new known more k =
      among_put (λ (x : Visit). x.member) old new before v known more k ∙ ap (λ vs. any vs k) (sym (take_more visits at no_visit l))

  module _ (first sets : List MemberSet) (earlier : List ℕ) (new : MemberSet) (there : v.member < length sets)
      (known : (k : ℕ) → holds earlier k ≡ any before k)
      (old : (i j : ℕ) → relates sets i j ≡ (relates first i j || comes_first before i j))
      (took : (k : ℕ) → holds new.words k ≡ (holds (get_or sets v.member no_set).words k || holds earlier k)) where
    more_is : (i j : ℕ) → (relates sets i j || (any before i && (v.member == j))) ≡ (relates first i j || comes_first (take (at + 1) visits) i j)
    more_is i j =
        ap (λ b. b || (any before i && (v.member == j))) (old i j)
        ∙ or_assoc (relates first i j) (comes_first before i j) (any before i && (v.member == j))
        ∙ ap (λ b. relates first i j || b) (sym (first_more before v i j))
        ∙ ap (λ vs. relates first i j || comes_first vs i j) (sym (take_more visits at no_visit l))

    of_visitor : (i : ℕ) → relates (set sets v.member new) i v.member ≡ (relates sets i v.member || (any before i && (v.member == v.member)))
    of_visitor i =
        let m = v.member in
        let itself : (m == m) ≡ true = eq-eqb m m refl in
        ap (λ (s : MemberSet). holds s.words i) (get_or-set_same sets m new no_set there)
        ∙ took i ∙ ap (λ b. relates sets i m || b) (known i ∙ sym (ap (λ b. any before i && b) itself ∙ and-true (any before i)))

    of_other : (i j : ℕ) → (j ≡ v.member → ⊥) → relates (set sets v.member new) i j ≡ (relates sets i j || (any before i && (v.member == j)))
    of_other i j ne =
        ap (λ (s : MemberSet). holds s.words i) (get_or-set_other sets v.member j new no_set ne)
        ∙ sym (ap (λ b. relates sets i j || b) (and_right (any before i) _ (ne_eqb v.member j (λ q. ne (sym q)))) ∙ or-false (relates sets i j))

    pub sets_more : (i j : ℕ) → relates (set sets v.member new) i j ≡ (relates first i j || comes_first (take (at + 1) visits) i j)
    sets_more i j =
        elim (cases_eq j v.member) [
          | inl e ↦
              subst (λ m. relates (set sets v.member new) i m ≡ (relates sets i m || (any before i && (v.member == m)))) (sym e) (of_visitor i)
          | inr ne ↦ of_other i j ne
        ] ∙ more_is i j
