-- The blocks that a member uses, and its use of one.
use Rattle.std.proofs.Common.{◌≡◌, ℕ, ◌<◌, true, false, List, [], ◌∷◌, length, inl, inr, refl, arith}
use Rattle.std.specs.Prelude.{ℤ, ◌==◌, nat_lt, filter, find, None, Some}
use Rattle.std.specs.List.{list_any}
use Rattle.std.proofs.lemmas.Bool.{cases_Bool, eq-eqb, or_left, or_right}
use Rattle.std.proofs.lemmas.Bool.Decides.{nat_tests}
use Rattle.rail_model.specs.declared.stair.Use.{Use}
use Rattle.plan_model.specs.declared.cut.CutRow.{CutRow}
use Rattle.plan_model.specs.declared.cut.Cut.{Cut}
use Rattle.plan_model.specs.Members.{block_count, member, member_count, no_member, uses_place, use_of, use_at}
use Rattle.plan_model.specs.Cut.{IsSoundCut}
use Rattle.plan_model.proofs.Uses.{its_use}
use Rattle.path_fill.specs.Search.{where_used}

below : (a b : ℕ) → nat_lt a b ≡ true → a < b
below a b h = grind (arith, nat_tests, h)

some_use : (uses : List Use) (n : ℕ) → 0 < length (filter (λ (u : Use). nat_lt u.block n) uses)
    → (b : ℕ) × (b < n) × (list_any (λ (u : Use). u.block == b) uses ≡ true)
some_use [] n h = absurd (omega (arith, h))
some_use (u ∷ uses) n h =
    elim (cases_Bool (nat_lt u.block n)) [
      | inl e ↦ (
        u.block,
        below u.block n e,
        or_left (u.block == u.block) (list_any (λ (v : Use). v.block == u.block) uses)
            (eq-eqb u.block u.block refl),
      )
      | inr e ↦
          let rest = some_use uses n (rw e at h) in
          (rest.0, rest.1, or_right (u.block == rest.0) (list_any (λ (v : Use). v.block == rest.0) uses) rest.2)
    ]

-- a member of a sound cut uses a block
pub some_block : (cut : Cut) → IsSoundCut cut → (r : ℕ) → r < member_count cut
    → (b : ℕ) × (b < block_count cut) × (uses_place (member cut r) b ≡ true)
some_block cut sound r l = some_use (member cut r).uses (block_count cut) (sound.each r no_member l).some_block

-- where no use is found, the place isn't used; the one that is found is the use of the place
not_found : (uses : List Use) (p : ℕ) → find (λ (u : Use). u.block == p) uses ≡ None
    → list_any (λ (u : Use). u.block == p) uses ≡ false
not_found [] p e = refl
not_found (u ∷ uses) p e =
    elim (cases_Bool (u.block == p)) [
      | inl y ↦ absurd (let there = rw y at e in cc)
      | inr n ↦ rw n (not_found uses p (rw n at e))
    ]

is_found : (uses : List Use) (p : ℕ) (one : Use) → find (λ (u : Use). u.block == p) uses ≡ Some one
    → list_any (λ (u : Use). u.block == p) uses ≡ true
is_found [] p one e = absurd (cc)
is_found (u ∷ uses) p one e =
    elim (cases_Bool (u.block == p)) [
      | inl y ↦ or_left (u.block == p) (list_any (λ (v : Use). v.block == p) uses) y
      | inr n ↦ or_right (u.block == p) (list_any (λ (v : Use). v.block == p) uses) (is_found uses p one (rw n at e))
    ]

pub at_none : (row : CutRow) (p : ℕ) (x : ℤ) → use_of row p ≡ None → None ≡ where_used (uses_place row p) x
at_none row p x e = rw (not_found row.uses p e) refl

pub uses_found : (row : CutRow) (p : ℕ) (one : Use) → use_of row p ≡ Some one → uses_place row p ≡ true
uses_found row p one e = is_found row.uses p one e

-- what is told of the use that is found
pub at_some : (row : CutRow) (p : ℕ) (one : Use) (f : Use → ℤ) → use_of row p ≡ Some one
    → Some (f one) ≡ where_used (uses_place row p) (f (use_at row p))
at_some row p one f e =
    let used = uses_found row p one e in
    let is = its_use row p one e in
    rw (used, is) refl
