-- The first, by names, of the edges as which a train enters.
use Rattle.std.proofs.Common.{◌≡◌, ◌≢◌, ℕ, ◌≤◌, true, false, ◌==◌, List, [], ◌∷◌, ◌++◌, get_or, inl, inr, refl, arith}
use Rattle.std.specs.Prelude.{ℤ, Bool, ◌&&◌, nat_lt, All, Option, None, Some}
use Rattle.std.specs.Ordering.{int_eq}
use Rattle.std.proofs.lemmas.Bool.{cases_Bool, cases_eq, eq-eqb, eqb-true, ne_eqb, le-ltb, ltb-true, ltb-false, or_parts, or_from, or_cases, and_parts, and_left, and_right, and_cases, both_ways}
use Rattle.std.proofs.lemmas.Bool.Decides.{Decides-int_eq}
use Rattle.std.proofs.lemmas.List.Elements.{All-push}
use Rattle.std.proofs.lemmas.List.Quantifiers.{Any-push}
use Rattle.rail_model.specs.Name.{is_before}
use Rattle.rail_model.proofs.NameOrder.{is_before-back, IsBefore-from, is_before-itself, not_before-both}
use Rattle.plan_model.specs.declared.cut.Cut.{Cut}
use Rattle.plan_model.specs.Members.{place_name, comes_first}
use Rattle.train_net.specs.declared.edge.Edge.{Edge}
use Rattle.train_net.specs.Read.{by_edge, IsTightAt, IsFirstTight}
use Rattle.train_net.specs.Reading.{tight_of, first_of_two, IsFirstOf}
use Rattle.train_net.proofs.Gathering.{any_before}

-- one edge comes before another, by the names of trains and places
abbrev first : Cut → Edge → Edge → Bool
first cut a b = comes_first cut (a.from, a.place) (b.from, b.place)

module _ (cut : Cut) where
  abbrev name : Edge → List ℕ
  name e = place_name cut e.place

  itself : (a : Edge) → first cut a a ≡ false
  itself a =
      or_from (nat_lt a.from a.from) (a.from == a.from && is_before (name a) (name a))
      (le-ltb a.from a.from (omega arith)) (and_right (a.from == a.from) (is_before (name a) (name a))
      (is_before-itself (name a)))

  other_way : (a b : Edge) → first cut a b ≡ true → first cut b a ≡ false
  other_way a b h =
      elim (or_cases (nat_lt a.from b.from) (a.from == b.from && is_before (name a) (name b)) h) [
        | inl l ↦
            let lt = ltb-true a.from b.from l in
            or_from (nat_lt b.from a.from) (b.from == a.from && is_before (name b) (name a))
            (le-ltb b.from a.from (omega (arith, lt)))
            (and_left (b.from == a.from) (is_before (name b) (name a))
            (ne_eqb b.from a.from (λ (e : b.from ≡ a.from). omega (arith, lt, e))))
        | inr e ↦
            let both = and_parts (a.from == b.from) (is_before (name a) (name b)) e in
            let same = eqb-true a.from b.from both.0 in
            or_from (nat_lt b.from a.from) (b.from == a.from && is_before (name b) (name a))
            (le-ltb b.from a.from (omega (arith, same)))
            (and_right (b.from == a.from) (is_before (name b) (name a))
            (is_before-back (name a) (name b) (IsBefore-from (name a) (name b) both.1)))
      ]

  -- what isn't first of two
  no_less : (a b : Edge) → first cut a b ≡ false → b.from ≤ a.from
  no_less a b h =
      ltb-false a.from b.from
      (or_parts (nat_lt a.from b.from) (a.from == b.from && is_before (name a) (name b)) h).0

  no_less_name : (a b : Edge) → first cut a b ≡ false → a.from ≡ b.from
      → is_before (name a) (name b) ≡ false
  no_less_name a b h e =
      elim (and_cases (a.from == b.from) (is_before (name a) (name b))
      (or_parts (nat_lt a.from b.from) (a.from == b.from && is_before (name a) (name b)) h).1) [
        | inl ne ↦ absurd (both_ways (a.from == b.from) ne (eq-eqb a.from b.from e))
        | inr n ↦ n
      ]

  through : (a b c : Edge) → first cut a b ≡ false → first cut b c ≡ false → first cut a c ≡ false
  through a b c p q =
      let ab = no_less a b p in
      let bc = no_less b c q in
      or_from (nat_lt a.from c.from) (a.from == c.from && is_before (name a) (name c))
      (le-ltb a.from c.from (omega (arith, ab, bc)))
      (elim (cases_eq a.from c.from) [
        | inr ne ↦ and_left (a.from == c.from) (is_before (name a) (name c)) (ne_eqb a.from c.from ne)
        | inl e ↦
            and_right (a.from == c.from) (is_before (name a) (name c))
            (not_before-both (name a) (name b) (name c) (no_less_name a b p (omega (arith, ab, bc, e)))
            (no_less_name b c q (omega (arith, ab, bc, e))))
      ])

  -- ---- with one edge more

  module _ (edges : List Edge) (entries : List ℤ) (entry : ℤ) (e : Edge) where
    abbrev Tight : Edge → Type 0
    Tight f = entry ≡ by_edge entries f

    not_tight : int_eq entry (by_edge entries e) ≡ false → Tight e → ⊥
    not_tight out at = both_ways (int_eq entry (by_edge entries e)) out ((Decides-int_eq entry (by_edge entries e)).1 at)

    is_first : Tight e → All (λ f. Tight f → first cut f e ≡ false) edges → IsFirstTight cut (edges ++ e ∷ []) entries entry e.from e.place
    is_first at none = record {
      one = Any-push (IsTightAt entries entry e.from e.place) edges e (record { tight = at; from = refl; place = refl });
      first = All-push (λ f. Tight f → first cut f e ≡ false) edges e none (λ t. itself e);
    }

    stays_first : (b : Edge) → IsFirstTight cut edges entries entry b.from b.place → (Tight e → first cut e b ≡ false)
        → IsFirstTight cut (edges ++ e ∷ []) entries entry b.from b.place
    stays_first b is out = record {
      one = any_before (IsTightAt entries entry b.from b.place) edges e is.one;
      first = All-push (λ f. Tight f → first cut f b ≡ false) edges e is.first out;
    }

    none_tight : (best : Option Edge) → int_eq entry (by_edge entries e) ≡ false → IsFirstOf cut edges entries entry best
        → IsFirstOf cut (edges ++ e ∷ []) entries entry (first_of_two cut best None)
    none_tight None out is = All-push (λ f. entry ≢ by_edge entries f) edges e is (not_tight out)
    none_tight (Some b) out is = stays_first b is (λ t. absurd (not_tight out t))

    one_tight : (best : Option Edge) → Tight e → IsFirstOf cut edges entries entry best
        → IsFirstOf cut (edges ++ e ∷ []) entries entry (first_of_two cut best (Some e))
    one_tight None at is = is_first at (λ k d l t. absurd (is k d l t))
    one_tight (Some b) at is =
        elim (cases_Bool (first cut e b)) [
          | inl before ↦ rw before
              (is_first at (λ k d l t. through (get_or edges k d) b e (is.first k d l t) (other_way e b before)))
          | inr out ↦ rw out (stays_first b is (λ t. out))
        ]

    pub first_more : (best : Option Edge) → IsFirstOf cut edges entries entry best
        → IsFirstOf cut (edges ++ e ∷ []) entries entry (first_of_two cut best (tight_of entries entry e))
    first_more best is =
        elim (cases_Bool (int_eq entry (by_edge entries e))) [
          | inl t ↦ rw t (one_tight best ((Decides-int_eq entry (by_edge entries e)).0 t) is)
          | inr f ↦ rw f (none_tight best f is)
        ]
