-- A section is untouched since an edit just where no later edit touches it: of two cuts, either they are equal, or they
-- differ.
use Rattle.std.proofs.Common.{◌≡◌, ◌⊎◌, ℕ, ◌-◌, List, [], ◌∷◌, Option, Some, None, inl, inr, refl, ap}
use Rattle.std.specs.Prelude.{ℤ}
use Rattle.std.proofs.Math.IntN.{ℤ_discrete}
use Rattle.std.proofs.lemmas.Bool.{cases_eq}
use Rattle.rail_model.specs.declared.stair.Use.{Use}
use Rattle.rail_model.specs.declared.items.Section.{Section}
use Rattle.plan_model.specs.declared.cut.CutRow.{CutRow}
use Rattle.plan_model.specs.declared.cut.Cut.{Cut}
use Rattle.plan_model.specs.Legal.{cut_at}
use Rattle.plan_model.specs.JournalLaws.{UntouchedIsNoneTouches}

-- any two values are equal, or they differ
abbrev EqualOrNot : Type 0 → Type 0
EqualOrNot X = (x y : X) → (x ≡ y) ⊎ (x ≡ y → ⊥)

integers : EqualOrNot ℤ
integers x y = elim (ℤ_discrete x y) [ yes e ↦ inl e | no n ↦ inr n ]

lists : {X : Type 0} → EqualOrNot X → EqualOrNot (List X)
lists of_one [] [] = inl refl
lists of_one [] (y ∷ ys) = inr (λ e. absurd (cc))
lists of_one (x ∷ xs) [] = inr (λ e. absurd (cc))
lists of_one (x ∷ xs) (y ∷ ys) =
    elim (of_one x y) [
      | inl e ↦ elim (lists of_one xs ys) [
        | inl es ↦ inl (λ i. e i ∷ es i)
        | inr apart ↦ inr (λ e. apart (cc))
      ]
      | inr apart ↦ inr (λ e. apart (cc))
    ]

pairs : {X Y : Type 0} → EqualOrNot X → EqualOrNot Y → EqualOrNot (X × Y)
pairs first second (a, b) (c, d) =
    elim (first a c) [
      | inl e ↦ elim (second b d) [
        | inl f ↦ inl (λ i. (e i, f i))
        | inr apart ↦ inr (λ e. apart (ap (λ p. p.1) e))
      ]
      | inr apart ↦ inr (λ e. apart (ap (λ p. p.0) e))
    ]

-- values that a value of another type tells
told : {X Y : Type 0} (f : X → Y) → EqualOrNot Y → ((x y : X) → f x ≡ f y → x ≡ y) → EqualOrNot X
told f of_told same x y =
    elim (of_told (f x) (f y)) [ inl e ↦ inl (same x y e) | inr apart ↦ inr (λ e. apart (ap f e)) ]

names : EqualOrNot (List ℕ)
names = lists cases_eq

uses : EqualOrNot Use
uses =
    told (λ (u : Use). (u.block, (u.start, u.«end»))) (pairs cases_eq (pairs integers integers))
    (λ x y e i. record { block = (e i).0; start = (e i).1.0; «end» = (e i).1.1 })

rows : EqualOrNot CutRow
rows =
    told (λ (r : CutRow). ((r.name, r.stamp), (r.entry, r.uses))) (pairs (pairs names cases_eq) (pairs integers (lists uses)))
    (λ x y e i. record { name = (e i).0.0; stamp = (e i).0.1; entry = (e i).1.0; uses = (e i).1.1 })

sections : EqualOrNot Section
sections =
    told (λ (s : Section). ((s.name, s.blocks), (s.from_s, (s.to_s, s.add_percent))))
    (pairs (pairs names (lists names)) (pairs cases_eq (pairs cases_eq cases_eq)))
    (λ x y e i. record {
      name = (e i).0.0;
      blocks = (e i).0.1;
      from_s = (e i).1.0;
      to_s = (e i).1.1.0;
      add_percent = (e i).1.1.1;
    })

cuts : EqualOrNot Cut
cuts =
    told (λ (c : Cut). (c.section, (c.connections, c.rows))) (pairs sections (pairs (lists names) (lists rows)))
    (λ x y e i. record { section = (e i).0; connections = (e i).1.0; rows = (e i).1.1 })

options : {X : Type 0} → EqualOrNot X → EqualOrNot (Option X)
options of_one None None = inl refl
options of_one None (Some y) = inr (λ e. absurd (cc))
options of_one (Some x) None = inr (λ e. absurd (cc))
options of_one (Some x) (Some y) =
    elim (of_one x y) [ inl e ↦ inl (ap (λ x. Some x) e) | inr apart ↦ inr (λ e. apart (cc)) ]

pub untouched_is_none_touches : UntouchedIsNoneTouches
untouched_is_none_touches journal section at = (
  λ untouched number after to touches. touches (untouched.each number after to),
  λ none. record {
    each = λ number after to.
        elim (options cuts (cut_at journal section number) (cut_at journal section (number - 1))) [
          | inl same ↦ same
          | inr differ ↦ absurd (none number after to differ)
        ];
  },
)
