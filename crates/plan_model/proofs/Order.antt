-- The order of two moments with names, and of two uses of one place.
use Rattle.std.proofs.Common.{◌≡◌, ℕ, ◌<◌, ◌⊎◌, true, ◌&&◌, List, inl, inr, arith}
use Rattle.std.specs.Prelude.{◌≢◌, ℤ, int_lt, IsTrue}
use Rattle.std.specs.Ordering.{int_eq}
use Rattle.std.proofs.lemmas.Bool.{cases_Bool, cases_order, or_left, or_right, or_cases, and_from, and_parts}
use Rattle.std.proofs.lemmas.Bool.Decides.{Decides-int_eq}
use Rattle.std.proofs.lemmas.Int.{ints}
use Rattle.rail_model.specs.Name.{IsBefore, is_before}
use Rattle.rail_model.proofs.NameOrder.{is_before-from, IsBefore-from}
use Rattle.rail_model.proofs.Numbers.{same_if_neither_less}
use Rattle.plan_model.specs.declared.cut.Cut.{Cut}
use Rattle.plan_model.specs.Members.{member, member_count, uses_place, use_at, no_member, precedes, comes_before}
use Rattle.plan_model.specs.Cut.{IsSoundCut}
use Rattle.plan_model.specs.Laws.{UsesAreApart, ComesBeforeIsTested}

-- of two moments with different names, one comes before the other
ordered : (s t : ℤ) (a b : List ℕ) → IsBefore a b → (comes_before s a t b ≡ true) ⊎ (comes_before t b s a ≡ true)
ordered s t a b h =
    elim (cases_Bool (int_lt s t)) [
      | inl l ↦ inl (or_left (int_lt s t) (int_eq s t && is_before a b) l)
      | inr g ↦ elim (cases_Bool (int_lt t s)) [
        | inl l ↦ inr (or_left (int_lt t s) (int_eq t s && is_before b a) l)
        | inr e ↦
            inl (or_right (int_lt s t) (int_eq s t && is_before a b)
            (and_from (int_eq s t) (is_before a b) ((Decides-int_eq s t).1 (same_if_neither_less s t g e))
            (is_before-from a b h)))
      ]
    ]

module _ (cut : Cut) (sound : IsSoundCut cut) where
  abbrev Precedes : ℕ → ℕ → ℕ → Type 0
  Precedes i j place = IsTrue (precedes (member cut i) (member cut j) place)

  one_if_less : (i j place : ℕ) → i < j → j < member_count cut → IsTrue (uses_place (member cut i) place)
      → IsTrue (uses_place (member cut j) place) → Precedes i j place ⊎ Precedes j i place
  one_if_less i j place l lj p q =
      let a = member cut i in
      let b = member cut j in
      elim (ordered (use_at a place).start (use_at b place).start a.name b.name
      (sound.names_rise i j no_member l lj)) [
        | inl e ↦ inl (and_from _ _ (and_from _ _ p q) e)
        | inr e ↦ inr (and_from _ _ (and_from _ _ q p) e)
      ]

  -- of two members that use a place one precedes the other there
  pub one_precedes : (i j place : ℕ) → i < member_count cut → j < member_count cut → i ≢ j
      → IsTrue (uses_place (member cut i) place) → IsTrue (uses_place (member cut j) place)
      → Precedes i j place ⊎ Precedes j i place
  one_precedes i j place li lj ne p q =
      elim (cases_order i j) [
        | inl e ↦ absurd (ne e)
        | inr d ↦ elim d [
          | inl l ↦ one_if_less i j place l lj p q
          | inr g ↦ elim (one_if_less j i place g li q p) [ inl e ↦ inr e | inr e ↦ inl e ]
        ]
      ]

pub uses_are_apart : UsesAreApart
uses_are_apart cut floor entries sound schedule i j place li lj ne p q =
    elim (one_precedes cut sound i j place li lj ne p q) [
      | inl e ↦ inl (record { precedes = e; apart = schedule.order i j place li lj e })
      | inr e ↦ inr (record { precedes = e; apart = schedule.order j i place lj li e })
    ]

pub comes_before_is_tested : ComesBeforeIsTested
comes_before_is_tested s t a b = (
  λ h.
      elim (or_cases (int_lt s t) (int_eq s t && is_before a b) h) [
        | inl l ↦ inl (grind (arith, ints, l))
        | inr e ↦ inr ((Decides-int_eq s t).0 (and_parts _ _ e).0, IsBefore-from a b (and_parts _ _ e).1)
      ],
  λ h.
      elim h [
        | inl l ↦ or_left (int_lt s t) (int_eq s t && is_before a b) (grind (arith, ints, l))
        | inr e ↦ or_right _ _ (and_from _ _ ((Decides-int_eq s t).1 e.0) (is_before-from a b e.1))
      ],
)
