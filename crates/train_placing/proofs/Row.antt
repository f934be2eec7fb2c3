-- What a row's uses ask of the last uses of its places, and what they leave there.
use Rattle.std.proofs.Common.{◌≡◌, ℕ, ◌⊎◌, Bool, true, false, List, [], ◌∷◌, inl, inr, ◌∙◌, refl, sym, ap, subst, arith}
use Rattle.std.specs.Prelude.{◌==◌, ℤ, ◌+ℤ◌, ◌-ℤ◌, ◌≤ℤ◌, int_lt, Option, None, Some, slice_index_or, if◌then◌else◌, fold, find, unwrap_or}
use Rattle.std.specs.Int.{int_max}
use Rattle.std.specs.List.{list_any}
use Rattle.std.proofs.lemmas.Bool.{cases_Bool, eq-eqb, eqb-true, or_parts, or_left, or_right, both_ways, false_from_ne_true}
use Rattle.std.proofs.lemmas.Int.{ints}
use Rattle.rail_model.specs.declared.stair.Use.{Use}
use Rattle.plan_model.specs.declared.cut.CutRow.{CutRow}
use Rattle.plan_model.specs.declared.cut.Cut.{Cut}
use Rattle.plan_model.specs.Cut.{IsSoundRow, AreOfOtherPlaces}
use Rattle.plan_model.specs.Members.{uses_place, no_use}
use Rattle.plan_model.specs.Schedule.{end_at}
use Rattle.plan_model.proofs.UseFound.{differ_tail, no_other}
use Rattle.train_placing.specs.declared.last.Last.{Last}
use Rattle.train_placing.specs.Last.{after, after_use, with_use, with_row}

-- ---- the use of a place

abbrev pub is_used : List Use → ℕ → Bool
is_used uses p = list_any (λ u. u.block == p) uses

abbrev pub at : List Use → ℕ → Use
at uses p = unwrap_or (find (λ u. u.block == p) uses) no_use

-- a place that the further uses use isn't that of the first
pub other_place : (u : Use) (uses : List Use) (p : ℕ) → AreOfOtherPlaces (u ∷ uses) → is_used uses p ≡ true
    → (u.block == p) ≡ false
other_place u uses p differ h =
    false_from_ne_true (u.block == p) (λ e.
    both_ways (is_used uses p) (no_other u uses p differ (eqb-true u.block p e)) h)

-- the use that is found is of the place
pub block_found : (uses : List Use) (p : ℕ) → is_used uses p ≡ true → (at uses p).block ≡ p
block_found [] p h = absurd (cc)
block_found (u ∷ uses) p h =
    elim (cases_Bool (u.block == p)) [
      | inl e ↦ rw e (eqb-true u.block p e)
      | inr e ↦ rw e (block_found uses p (rw e at h))
    ]

-- ---- what a row leaves

untouched : (planned : ℤ) (train : ℕ) (entry : ℤ) (p : ℕ) (last : Option Last) (uses : List Use)
    → is_used uses p ≡ false → fold (with_use planned train entry p) last uses ≡ last
untouched planned train entry p last [] h = refl
untouched planned train entry p last (u ∷ uses) h =
    let parts = or_parts (u.block == p) (is_used uses p) h in
    rw parts.0 (untouched planned train entry p last uses parts.1)

uses_step : (planned : ℤ) (train : ℕ) (entry : ℤ) (p : ℕ) (last : Option Last) (uses : List Use) → AreOfOtherPlaces uses
    → fold (with_use planned train entry p) last uses
    ≡ (if is_used uses p then Some (record {
      until =
          (at uses p).«end» -ℤ planned +ℤ entry;
      train = train;
    }) else last)
uses_step planned train entry p last [] differ = refl
uses_step planned train entry p last (u ∷ uses) differ =
    elim (cases_Bool (u.block == p)) [
      | inl e ↦
          let none : is_used uses p ≡ false =
          false_from_ne_true (is_used uses p) (λ h. both_ways _ (other_place u uses p differ h) e) in
          rw e (untouched planned train entry p _ uses none)
      | inr e ↦ rw e (uses_step planned train entry p last uses (differ_tail u uses differ))
    ]

pub row_step : (cut : Cut) (row : CutRow) (train : ℕ) (entry : ℤ) (p : ℕ) (last : Option Last) → IsSoundRow cut row
    → with_row row train entry p last
    ≡ (if uses_place row p then Some (record { until = end_at row entry p; train = train }) else last)
row_step cut row train entry p last sound = uses_step row.entry train entry p last row.uses sound.places_differ

-- ---- what a row asks

-- the entry that the last use of a place asks for
abbrev pub asked : ℤ → List Use → ℕ → Last → ℤ
asked planned uses p l = l.until -ℤ ((at uses p).start -ℤ planned)

pub max_left : (a b : ℤ) → a ≤ℤ int_max a b
max_left a b = grind (arith, ints)

pub max_right : (a b : ℤ) → b ≤ℤ int_max a b
max_right a b = grind (arith, ints)

pub max_either : (a b : ℤ) → (int_max a b ≡ a) ⊎ (int_max a b ≡ b)
max_either a b =
    elim (cases_Bool (int_lt a b)) [
      | inl e ↦ inr (grind (arith, ints, e))
      | inr e ↦ inl (grind (arith, ints, e))
    ]

step_above : (planned : ℤ) (o : Option Last) (entry : ℤ) (u : Use) → entry ≤ℤ after planned o entry u
step_above planned None entry u = omega (arith, ints)
step_above planned (Some l) entry u = grind (arith, ints)

step_asked : (planned : ℤ) (l : Last) (entry : ℤ) (u : Use)
    → (l.until -ℤ (u.start -ℤ planned)) ≤ℤ after planned (Some l) entry u
step_asked planned l entry u = grind (arith, ints)

step_reached : (planned : ℤ) (o : Option Last) (entry : ℤ) (u : Use)
    → (after planned o entry u ≡ entry)
    ⊎ ((l : Last) × (o ≡ Some l) × (after planned o entry u ≡ l.until -ℤ (u.start -ℤ planned)))
step_reached planned None entry u = inl refl
step_reached planned (Some l) entry u =
    elim (max_either entry (l.until -ℤ (u.start -ℤ planned))) [ inl e ↦ inl e | inr e ↦ inr (l, refl, e) ]

module _ (planned : ℤ) (last : List (Option Last)) where
  abbrev from_uses : ℤ → List Use → ℤ
  from_uses from uses = fold (after_use planned last) from uses

  pub from_below : (from : ℤ) (uses : List Use) → from ≤ℤ from_uses from uses
  from_below from [] = omega (arith, ints)
  from_below from (u ∷ uses) =
      let here = step_above planned (slice_index_or last u.block None) from u in
      let rest = from_below (after_use planned last from u) uses in
      omega (arith, ints, here, rest)

  pub each_below : (from : ℤ) (uses : List Use) (p : ℕ) (l : Last) → is_used uses p ≡ true
      → slice_index_or last p None ≡ Some l → asked planned uses p l ≤ℤ from_uses from uses
  each_below from [] p l h is = absurd (cc)
  each_below from (u ∷ uses) p l h is =
      elim (cases_Bool (u.block == p)) [
        | inr e ↦ rw e (each_below (after_use planned last from u) uses p l (rw e at h) is)
        | inl e ↦
            let there : slice_index_or last u.block None ≡ Some l =
            ap (λ q. slice_index_or last q None) (eqb-true u.block p e) ∙ is in
            let here : (l.until -ℤ (u.start -ℤ planned)) ≤ℤ after_use planned last from u =
            subst (λ o. (l.until -ℤ (u.start -ℤ planned)) ≤ℤ after planned o from u) (sym there)
            (step_asked planned l from u) in
            let rest = from_below (after_use planned last from u) uses in
            rw e (omega (arith, ints, here, rest))
      ]

  -- the place whose last use asks for an entry
  pub record IsAsked (uses : List Use) (entry : ℤ) : Type 0 where
    pub place : ℕ
    pub last_use : Last
    pub used : is_used uses place ≡ true
    pub is : slice_index_or last place None ≡ Some last_use
    pub at_entry : entry ≡ asked planned uses place last_use

  wider : (u : Use) (uses : List Use) (entry : ℤ) → AreOfOtherPlaces (u ∷ uses) → IsAsked uses entry → IsAsked (u ∷ uses) entry
  wider u uses entry differ a =
      let other = other_place u uses a.place differ a.used in
      record {
        place = a.place;
        last_use = a.last_use;
        used = or_right (u.block == a.place) (is_used uses a.place) a.used;
        is = a.is;
        at_entry = rw other a.at_entry;
      }

  pub reached : (from : ℤ) (uses : List Use) → AreOfOtherPlaces uses
      → (from_uses from uses ≡ from) ⊎ IsAsked uses (from_uses from uses)
  reached from [] differ = inl refl
  reached from (u ∷ uses) differ =
      elim (reached (after_use planned last from u) uses (differ_tail u uses differ)) [
        | inr a ↦ inr (wider u uses _ differ a)
        | inl e ↦ elim (step_reached planned (slice_index_or last u.block None) from u) [
          | inl s ↦ inl (e ∙ s)
          | inr (l, is, s) ↦
              let itself : (u.block == u.block) ≡ true = eq-eqb u.block u.block refl in
              inr (record {
                place = u.block;
                last_use = l;
                used = or_left (u.block == u.block) (is_used uses u.block) itself;
                is = is;
                at_entry = rw itself (e ∙ s);
              })
        ]
      ]
