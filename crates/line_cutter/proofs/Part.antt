-- What a piece has at a place is what the cut has there.
use Rattle.std.proofs.Common.{◌≡◌, ℕ, ◌+◌, ◌-◌, ◌<◌, ◌≤◌, true, false, List, [], ◌∷◌, map, inl, inr, refl, ap, ◌∙◌, arith}
use Rattle.std.specs.Prelude.{◌==◌, nat_le, nat_lt, filter, find, Option, Some, None, option_map, unwrap_or}
use Rattle.std.specs.List.{list_any}
use Rattle.std.proofs.lemmas.Bool.{cases_Bool, cases_eq, and_parts, and_from, both_ways, leb-true, ltb-true, le-leb, lt-ltb, eqb-true, eq-eqb, ne_eqb, or_cases, or_left, or_right}
use Rattle.rail_model.specs.declared.stair.Use.{Use}
use Rattle.plan_model.specs.declared.cut.CutRow.{CutRow}
use Rattle.plan_model.specs.Members.{no_use, precedes}
use Rattle.line_cutter.specs.Cutting.{is_within, moved_use, piece_row}

pub within_from : (a b : ℕ) (u : Use) → a ≤ u.block → u.block < b → is_within a b u ≡ true
within_from a b u from to = and_from (nat_le a u.block) (nat_lt u.block b) (le-leb a u.block from) (lt-ltb u.block b to)

pub from_within : (a b : ℕ) (u : Use) → is_within a b u ≡ true → (a ≤ u.block) × (u.block < b)
from_within a b u h =
    let parts = and_parts (nat_le a u.block) (nat_lt u.block b) h in
    (leb-true a u.block parts.0, ltb-true u.block b parts.1)

-- place p of the piece is block q of the cut
module _ (a b p q : ℕ) (is : p + a ≡ q) (there : q < b) where
  moved_test : (u : Use) → is_within a b u ≡ true → (u.block - a == p) ≡ (u.block == q)
  moved_test u h =
      let within = from_within a b u h in
      elim (cases_eq u.block q) [
        | inl e ↦ rw (eq-eqb (u.block - a) p (omega (arith, e, is)), eq-eqb u.block q e) refl
        | inr n ↦
            rw (ne_eqb (u.block - a) p (λ (e : u.block - a ≡ p). n (omega (arith, e, is, within.0))), ne_eqb u.block q n) refl
      ]

  outside : (u : Use) → is_within a b u ≡ false → (u.block == q) ≡ false
  outside u h =
      ne_eqb u.block q (λ (e : u.block ≡ q).
      both_ways (is_within a b u) h (within_from a b u (omega (arith, e, is)) (omega (arith, e, there))))

  used : (uses : List Use)
      → list_any (λ u. u.block == p) (map (moved_use a) (filter (is_within a b) uses)) ≡ list_any (λ u. u.block == q) uses
  used [] = refl
  used (u ∷ uses) =
      elim (cases_Bool (is_within a b u)) [
        | inl e ↦ rw e (rw (moved_test u e, used uses) refl)
        | inr e ↦ rw (e, outside u e) (used uses)
      ]

  found : (uses : List Use)
      → find (λ u. u.block == p) (map (moved_use a) (filter (is_within a b) uses))
      ≡ option_map (moved_use a) (find (λ u. u.block == q) uses)
  found [] = refl
  found (u ∷ uses) =
      elim (cases_Bool (is_within a b u)) [
        | inl e ↦ elim (cases_Bool (u.block == q)) [
          | inl t ↦ let s : (u.block - a == p) ≡ true = moved_test u e ∙ t in rw e (rw (s, t) refl)
          | inr f ↦ let s : (u.block - a == p) ≡ false = moved_test u e ∙ f in rw e (rw (s, f) (found uses))
        ]
        | inr e ↦ rw (e, outside u e) (found uses)
      ]

  same_start : (uses : List Use)
      → (unwrap_or (find (λ u. u.block == p) (map (moved_use a) (filter (is_within a b) uses))) no_use).start
      ≡ (unwrap_or (find (λ u. u.block == q) uses) no_use).start
  same_start uses = ap (λ (o : Option Use). (unwrap_or o no_use).start) (found uses) ∙ unmoved (find (λ u. u.block == q) uses) where
    unmoved : (o : Option Use) → (unwrap_or (option_map (moved_use a) o) no_use).start ≡ (unwrap_or o no_use).start
    unmoved None = refl
    unmoved (Some u) = refl

  -- who precedes whom in the piece is who does in the cut
  pub same_precedence : (i j : CutRow) → precedes (piece_row a b i) (piece_row a b j) p ≡ precedes i j q
  same_precedence i j = rw (used i.uses, used j.uses, same_start i.uses, same_start j.uses) refl

-- what uses a place of a piece uses one of its blocks
pub used_within : (a b p : ℕ) (uses : List Use)
    → list_any (λ u. u.block == p) (map (moved_use a) (filter (is_within a b) uses)) ≡ true → p + a < b
used_within a b p [] h = absurd (cc)
used_within a b p (u ∷ uses) h =
    elim (cases_Bool (is_within a b u)) [
      | inr n ↦ used_within a b p uses (rw n at h)
      | inl e ↦
          let within = from_within a b u e in
          elim (or_cases (u.block - a == p) (list_any (λ u. u.block == p) (map (moved_use a) (filter (is_within a b) uses))) (rw e at h)) [
            | inl t ↦ omega (arith, eqb-true (u.block - a) p t, within.0, within.1)
            | inr r ↦ used_within a b p uses r
          ]
    ]

-- who uses a part of a piece uses the piece
pub wider : (a b c d : ℕ) → a ≤ c → d ≤ b → (uses : List Use) → list_any (is_within c d) uses ≡ true
    → list_any (is_within a b) uses ≡ true
wider a b c d from to [] h = absurd (cc)
wider a b c d from to (u ∷ uses) h =
    elim (or_cases (is_within c d u) (list_any (is_within c d) uses) h) [
      | inl e ↦
          let within = from_within c d u e in
          or_left (is_within a b u) (list_any (is_within a b) uses)
          (within_from a b u (omega (arith, from, within.0)) (omega (arith, to, within.1)))
      | inr e ↦ or_right (is_within a b u) (list_any (is_within a b) uses) (wider a b c d from to uses e)
    ]
