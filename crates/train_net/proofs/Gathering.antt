-- Edges to a train that are gathered, one after the other.
use Rattle.std.proofs.Common.{◌≡◌, ◌⊎◌, true, false, List, [], ◌∷◌, ◌++◌, length, inl, inr, refl, sym, subst, ◌∙◌, arith, length-append}
use Rattle.std.specs.Prelude.{◌≤ℤ◌, int_lt, ◌&&◌, All, Any, None, Some}
use Rattle.std.specs.Ordering.{int_eq}
use Rattle.std.proofs.lemmas.Bool.{and_parts, and_cases, or_parts, or_cases, both_ways, cases_lt}
use Rattle.std.proofs.lemmas.Bool.Decides.{Decides-int_eq}
use Rattle.std.proofs.lemmas.Int.{ints}
use Rattle.std.proofs.lemmas.List.{get_or_append_left, get_or_push}
use Rattle.std.proofs.lemmas.List.Elements.{All-push}
use Rattle.std.proofs.lemmas.List.Quantifiers.{Any-push}
use Rattle.rail_model.specs.Name.{is_before}
use Rattle.rail_model.proofs.NameOrder.{IsBefore-from, is_before-back, not_before-both}
use Rattle.plan_model.specs.declared.cut.Cut.{Cut}
use Rattle.plan_model.specs.Members.{place_name, member, headway_at}
use Rattle.train_net.specs.declared.edge.Edge.{Edge}
use Rattle.train_net.specs.Net.{IsEdge, Covers}
use Rattle.train_net.specs.Gathered.{Gathers, takes_over, IsTighter}

-- ---- lists with one element more

module _ {X : Type 0} (P : X → Type 0) (xs : List X) (y : X) where
  pub any_before : Any P xs → Any P (xs ++ y ∷ [])
  any_before (k, x, l, is, p) = (k, x, omega (arith, l, length-append xs (y ∷ [])), get_or_append_left xs (y ∷ []) x k l ∙ is, p)

  pub any_parts : Any P (xs ++ y ∷ []) → Any P xs ⊎ P y
  any_parts (k, x, l, is, p) =
      let long = length-append xs (y ∷ []) in
      elim (cases_lt k (length xs)) [
        | inl lt ↦ inl (k, x, lt, sym (get_or_append_left xs (y ∷ []) x k lt) ∙ is, p)
        | inr le ↦
            let last : length xs ≡ k = omega (arith, le, l, long) in
            inr (subst P (sym is ∙ get_or_push xs y x k last) p)
      ]

  pub all_parts : All P (xs ++ y ∷ []) → All P xs × P y
  all_parts all = (
    λ k d l. subst P (get_or_append_left xs (y ∷ []) d k l) (all k d (omega (arith, l, length-append xs (y ∷ [])))),
    subst P (get_or_push xs y y (length xs) refl) (all (length xs) y (omega (arith, length-append xs (y ∷ [])))),
  )

-- ---- of two edges

module _ (cut : Cut) (a b : Edge) (same : a.from ≡ b.from) where
  pub other_tighter : takes_over cut a b ≡ true → IsTighter cut a b b
  other_tighter h = record {
    either = inr refl;
    first = λ i j place covers.
        elim (or_cases (int_lt a.weight b.weight) (int_eq a.weight b.weight && is_before (place_name cut b.place) (place_name cut a.place)) h) [
          | inl more ↦ record {
            from = sym same ∙ covers.from;
            tight = grind (arith, ints, covers.tight, more);
            first = λ e. absurd (let t = covers.tight in grind (arith, ints, t, more, e));
          }
          | inr as_much ↦
              let parts = and_parts (int_eq a.weight b.weight) _ as_much in
              let equal : a.weight ≡ b.weight = (Decides-int_eq a.weight b.weight).0 parts.0 in
              record {
                from = sym same ∙ covers.from;
                tight = subst (λ w. headway_at (member cut i) (member cut j) place ≤ℤ w) equal covers.tight;
                first = λ e.
                    not_before-both (place_name cut place) (place_name cut a.place) (place_name cut b.place)
                    (covers.first (e ∙ sym equal))
                    (is_before-back (place_name cut b.place) (place_name cut a.place)
                    (IsBefore-from (place_name cut b.place) (place_name cut a.place) parts.1));
              }
        ];
    second = λ i j place covers. covers;
  }

  pub one_tighter : takes_over cut a b ≡ false → IsTighter cut a b a
  one_tighter h =
      let parts = or_parts (int_lt a.weight b.weight) _ h in
      record {
        either = inl refl;
        first = λ i j place covers. covers;
        second = λ i j place covers. record {
          from = same ∙ covers.from;
          tight = let less = parts.0 in grind (arith, ints, covers.tight, less);
          first = λ e.
              let less = parts.0 in
              let tight = covers.tight in
              let equal : a.weight ≡ b.weight = grind (arith, ints, tight, less, e) in
              let test : int_eq a.weight b.weight ≡ true = (Decides-int_eq a.weight b.weight).1 equal in
              let name : is_before (place_name cut b.place) (place_name cut a.place) ≡ false =
              elim (and_cases (int_eq a.weight b.weight) (is_before (place_name cut b.place) (place_name cut a.place)) parts.1) [
                | inl differ ↦ absurd (both_ways (int_eq a.weight b.weight) differ test)
                | inr out ↦ out
              ] in
              not_before-both (place_name cut place) (place_name cut b.place) (place_name cut a.place) (covers.first (e ∙ equal)) name;
        };
      }

-- ---- one edge more

module _ (cut : Cut) (edges : List Edge) where
  pub gathers_nothing : Gathers cut edges None edges
  gathers_nothing = record { real = λ j all none. all; kept = λ i j place any. any; added = λ i j place e is covers. absurd (cc) }

  pub gathers_one : (e : Edge) → Gathers cut edges (Some e) (edges ++ e ∷ [])
  gathers_one e = record {
    real = λ j all next. All-push (IsEdge cut j) edges e all next;
    kept = λ i j place any. any_before (Covers cut i j place) edges e any;
    added = λ i j place f is covers. Any-push (Covers cut i j place) edges e (subst (Covers cut i j place) (let s : f ≡ e = cc in s) covers);
  }

  pub gathers_tighter : (a b t : Edge) → IsTighter cut a b t → Gathers cut (edges ++ a ∷ []) (Some b) (edges ++ t ∷ [])
  gathers_tighter a b t is = record {
    real = λ j all next.
        let parts = all_parts (IsEdge cut j) edges a all in
        All-push (IsEdge cut j) edges t parts.0
        (elim is.either [ inl e ↦ subst (IsEdge cut j) (sym e) parts.1 | inr e ↦ subst (IsEdge cut j) (sym e) next ]);
    kept = λ i j place any.
        elim (any_parts (Covers cut i j place) edges a any) [
          | inl before ↦ any_before (Covers cut i j place) edges t before
          | inr covers ↦ Any-push (Covers cut i j place) edges t (is.first i j place covers)
        ];
    added = λ i j place f same covers.
        Any-push (Covers cut i j place) edges t (is.second i j place (subst (Covers cut i j place) (let s : f ≡ b = cc in s) covers));
  }
