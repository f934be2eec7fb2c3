-- What the rows of a sound cut have, and their uses of its places.
use Rattle.std.proofs.Common.{◌≡◌, ℕ, ◌<◌, true, List, [], ◌∷◌, length, map, inl, inr, refl, suc, arith}
use Rattle.std.specs.Prelude.{◌==◌, ◌≤ℤ◌, ◌+ℤ◌, ◌-ℤ◌, ◌^◌, ℤ, pos, find, unwrap_or, All, IfSome}
use Rattle.std.specs.List.{list_any}
use Rattle.std.proofs.lemmas.Bool.{cases_Bool}
use Rattle.std.proofs.lemmas.Int.{ints, fold-int_min_bounds}
use Rattle.std.proofs.lemmas.List.Elements.{All-filter}
use Rattle.rail_model.specs.declared.stair.Use.{Use}
use Rattle.rail_model.specs.declared.limits.TheConstants.{GREATEST_MOMENT_S}
use Rattle.plan_model.specs.declared.cut.CutRow.{CutRow}
use Rattle.plan_model.specs.declared.cut.Cut.{Cut}
use Rattle.plan_model.specs.Members.{block_count, place_count, member, member_count, no_member, uses_place, use_of, use_at, no_use}
use Rattle.plan_model.specs.Cut.{least, is_block, block_uses, IsMoment, IsBounded, IsSoundUse, IsSoundRow, IsSoundCut, IsUsable, AreOfOtherPlaces, AreBlocksFirst, MembersAreUsable}

-- the least start of some uses that start by a moment
pub least_most : (uses : List Use) (z : ℤ) → 0 < length uses → All (λ (u : Use). u.start ≤ℤ z) uses
    → least (map (λ (u : Use). u.start) uses) ≤ℤ z
least_most [] z some each = absurd (omega (arith, some))
least_most (u ∷ uses) z some each =
    let first : u.start ≤ℤ z = each 0 u (omega arith) in
    let rest = (fold-int_min_bounds u.start (map (λ (u : Use). u.start) uses) _ refl).0 in
    omega (arith, ints, first, rest)

pub usable_row : (cut : Cut) (row : CutRow) → IsSoundRow cut row → IsUsable (place_count cut) row
usable_row cut row sound =
    let most = least_most (block_uses cut row) GREATEST_MOMENT_S sound.some_block
    (All-filter (λ (u : Use). is_block cut u.block) (λ (u : Use). u.start ≤ℤ GREATEST_MOMENT_S) row.uses
    (λ i d l. (sound.each i d l).starts.before)) in
    record {
      entry = record {
        after = omega (arith, ints, sound.from_window);
        before = omega (arith, ints, sound.entry, most);
      };
      starts = λ i d l. (sound.each i d l).starts;
      ends = λ i d l. (sound.each i d l).ends;
      there = λ i d l. (sound.each i d l).place;
    }

-- a moment of a timetable is one of trains that are moved
pub bounded : (t : ℤ) → IsMoment t → IsBounded t
bounded t h = record { after = omega (arith, ints, h.after); before = omega (arith, ints, h.before) }

-- moments of a train that is planned at one moment and enters at another from -2^49 to 2^49 are bounded
pub shifted : (time planned entry : ℤ) → IsMoment time → IsMoment planned → (pos 0 -ℤ pos (2 ^ 49)) ≤ℤ entry
    → entry ≤ℤ pos (2 ^ 49) → IsBounded (time -ℤ planned +ℤ entry)
shifted time planned entry t p a b = record {
  after = omega (arith, ints, t.after, p.before, a);
  before = omega (arith, ints, t.before, p.after, b);
}

-- what holds of all uses holds of that of a place
pub of_all : (P : Use → Type 0) (uses : List Use) (place : ℕ) → All P uses
    → list_any (λ (u : Use). u.block == place) uses ≡ true
    → P (unwrap_or (find (λ (u : Use). u.block == place) uses) no_use)
of_all P [] place all h = absurd (cc)
of_all P (u ∷ uses) place all h =
    elim (cases_Bool (u.block == place)) [
      | inl e ↦ rw e (all 0 u (omega arith))
      | inr e ↦ rw e (of_all P uses place (λ i d l. all (suc i) d (omega (arith, l))) (rw e at h))
    ]

pub of_found : (P : Use → Type 0) (uses : List Use) (place : ℕ) → All P uses
    → IfSome (find (λ (u : Use). u.block == place) uses) P
of_found P [] place all = tt
of_found P (u ∷ uses) place all =
    elim (cases_Bool (u.block == place)) [
      | inl e ↦ rw e (all 0 u (omega arith))
      | inr e ↦ rw e (of_found P uses place (λ i d l. all (suc i) d (omega (arith, l))))
    ]

module _ (cut : Cut) (sound : IsSoundCut cut) where
  pub all_usable : All (IsUsable (place_count cut)) cut.rows
  all_usable i d l = usable_row cut _ (sound.each i d l)

  module _ (i : ℕ) (l : i < member_count cut) where
    pub usable : IsUsable (place_count cut) (member cut i)
    usable = all_usable i no_member l

    pub differ : AreOfOtherPlaces (member cut i).uses
    differ = (sound.each i no_member l).places_differ

    pub blocks_first : AreBlocksFirst (block_count cut) (member cut i).uses
    blocks_first = (sound.each i no_member l).blocks_first

    pub use_sound : (place : ℕ) → uses_place (member cut i) place ≡ true
        → IsSoundUse cut (use_at (member cut i) place)
    use_sound place used = of_all (IsSoundUse cut) (member cut i).uses place (sound.each i no_member l).each used

    pub found_sound : (place : ℕ) → IfSome (use_of (member cut i) place) (IsSoundUse cut)
    found_sound place = of_found (IsSoundUse cut) (member cut i).uses place (sound.each i no_member l).each

pub members_are_usable : MembersAreUsable
members_are_usable cut i sound l = usable cut sound i l
