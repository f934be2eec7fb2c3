-- The walk along the uses of the train that follows gives the headway.
use Rattle.std.proofs.Common.{◌≡◌, ℕ, suc, ◌<◌, true, false, List, [], ◌∷◌, length, map, get_or, inl, inr, refl, ap, sym, ◌∙◌, arith}
use Rattle.std.specs.Prelude.{◌==◌, ℤ, ◌-ℤ◌, Option, None, Some, filter, fold}
use Rattle.std.specs.Int.{int_max}
use Rattle.std.specs.List.{list_any}
use Rattle.std.proofs.lemmas.Bool.{cases_Bool, eq-eqb, or_left}
use Rattle.rail_model.specs.declared.stair.Use.{Use}
use Rattle.rail_model.proofs.Numbers.{le_both_ways}
use Rattle.plan_model.specs.declared.cut.CutRow.{CutRow}
use Rattle.plan_model.specs.Cut.{AreOfOtherPlaces}
use Rattle.plan_model.specs.Members.{uses_place, use_at, headway, headway_at, greatest_of, shared_places}
use Rattle.plan_model.specs.Answer.{greatest}
use Rattle.plan_model.proofs.MemberTests.{has, has-filter, filter-has}
use Rattle.plan_model.proofs.Greatest.{above_each, greatest_within}
use Rattle.headway_table.specs.Walk.{end_in, greater, with_use, walked}
use Rattle.headway_table.proofs.Found.{at_own, end_is}

-- ---- the greatest of what some places give depends on which they are alone

pub same_greatest : (f : ℕ → ℤ) (some other : List ℕ) → ((i : ℕ) → has some i ≡ true → has other i ≡ true)
    → ((i : ℕ) → has other i ≡ true → has some i ≡ true)
    → greatest_of (map f some) ≡ greatest_of (map f other)
same_greatest f [] [] to from = refl
same_greatest f [] (k ∷ other) to from =
    absurd (let no : false ≡ true = from k (or_left (k == k) (has other k) (eq-eqb k k refl)) in cc)
same_greatest f (k ∷ some) [] to from =
    absurd (let no : false ≡ true = to k (or_left (k == k) (has some k) (eq-eqb k k refl)) in cc)
same_greatest f (k ∷ some) (m ∷ other) to from =
    let k_there = or_left (k == k) (has some k) (eq-eqb k k refl) in
    let m_there = or_left (m == m) (has other m) (eq-eqb m m refl) in
    ap Some (le_both_ways (greatest (map f (k ∷ some))) (greatest (map f (m ∷ other)))
    (greatest_within f (greatest (map f (m ∷ other))) (k ∷ some) k k_there
    (λ i h. above_each f (m ∷ other) i (to i h)))
    (greatest_within f (greatest (map f (k ∷ some))) (m ∷ other) m m_there
    (λ i h. above_each f (k ∷ some) i (from i h))))

-- ---- the places of uses

has_place : (uses : List Use) (p : ℕ) → has (map (λ u. u.block) uses) p ≡ list_any (λ u. u.block == p) uses
has_place [] p = refl
has_place (u ∷ uses) p = rw (has_place uses p) refl

shared : (a b : CutRow) (p : ℕ) → has (shared_places a b) p ≡ true → has (shared_places b a) p ≡ true
shared a b p h =
    let parts = filter-has (uses_place b) (map (λ (u : Use). u.block) a.uses) p h in
    has-filter (uses_place a) (map (λ (u : Use). u.block) b.uses) p (has_place b.uses p ∙ parts.1)
    (sym (has_place a.uses p) ∙ parts.0)

-- ---- the walk

abbrev pub step : Option ℤ → ℤ → Option ℤ
step greatest one = Some (greater greatest one)

from_first : (one : ℤ) (xs : List ℤ) → fold step (Some one) xs ≡ Some (fold int_max one xs)
from_first one [] = refl
from_first one (x ∷ xs) = from_first (int_max one x) xs

pub steps_is : (xs : List ℤ) → fold step None xs ≡ greatest_of xs
steps_is [] = refl
steps_is (x ∷ xs) = from_first x xs

walk_is : (a b : CutRow) (so_far : Option ℤ) (uses : List Use)
    → ((i : ℕ) (d : Use) → i < length uses → use_at b (get_or uses i d).block ≡ get_or uses i d)
    → fold (with_use (end_in a) b.entry) so_far uses
    ≡ fold step so_far (map (headway_at a b) (filter (uses_place a) (map (λ u. u.block) uses)))
walk_is a b so_far [] own = refl
walk_is a b so_far (u ∷ uses) own =
    let rest = λ (o : Option ℤ). walk_is a b o uses (λ i d l. own (suc i) d (omega (arith, l))) in
    let itself : use_at b u.block ≡ u = own 0 u (omega arith) in
    elim (cases_Bool (uses_place a u.block)) [
      | inl e ↦
          let there : end_in a u.block ≡ Some ((use_at a u.block).«end» -ℤ a.entry) = end_is a u.block ∙ (rw e refl) in
          rw (there, e) (rest _ ∙ ap (λ (v : Use). fold step
          (step so_far (((use_at a u.block).«end» -ℤ a.entry) -ℤ (v.start -ℤ b.entry)))
          (map (headway_at a b) (filter (uses_place a) (map (λ w. w.block) uses)))) (sym itself))
      | inr e ↦
          let none : end_in a u.block ≡ None = end_is a u.block ∙ (rw e refl) in
          rw (none, e) (rest so_far)
    ]

-- the walk gives the headway
pub walked_is : (a b : CutRow) → AreOfOtherPlaces b.uses → walked (end_in a) b ≡ headway a b
walked_is a b differ =
    walk_is a b None b.uses (at_own b.uses differ)
    ∙ steps_is (map (headway_at a b) (shared_places b a))
    ∙ same_greatest (headway_at a b) (shared_places b a) (shared_places a b) (shared b a) (shared a b)
