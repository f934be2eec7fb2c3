-- The search for the least period.
use Rattle.std.proofs.Common.{◌≡◌, ℕ, ◌<◌, ◌≤◌, ◌==◌, true, List, get_or, inl, inr, refl, ap, subst, ◌∙◌, arith}
use Rattle.std.specs.Prelude.{ℤ, pos, ◌-ℤ◌, ◌*ℤ◌, ◌≤ℤ◌, ◌<ℤ◌, ◌⊎◌, All}
use Rattle.std.specs.List.{list_any}
use Rattle.std.proofs.lemmas.Bool.{or_left, eq-eqb, ltb-true}
use Rattle.std.proofs.lemmas.Int.{ints}
use Rattle.std.proofs.lemmas.List.Elements.{filter_passes}
use Rattle.std.proofs.lemmas.List.Folds.{list_any-append, list_any_at}
use Rattle.rail_model.specs.declared.stair.Use.{Use}
use Rattle.plan_model.specs.declared.cut.Cut.{Cut}
use Rattle.plan_model.specs.Members.{block_count, member, member_count, no_member, no_use, uses_place}
use Rattle.plan_model.specs.Cut.{IsSoundCut, is_block, block_uses, connection_uses}
use Rattle.plan_model.specs.Schedule.{entry_at}
use Rattle.plan_model.proofs.Uses.{takes_time_by}
use Rattle.cycle_time.specs.declared.demand.Demand.{Demand}
use Rattle.cycle_time.specs.Cycle.{IsRepeating, IsLeastRepeating}
use Rattle.cycle_time.specs.Demands.{IsLight}
use Rattle.cycle_time.proofs.Refused.{nat_times}
use Rattle.cycle_time.proofs.Allowed.{greater}
use Rattle.cycle_time.specs.Rings.{weights, laps, IsRefusal, IsLimit, IsLeastPeriod}

-- a train doesn't repeat at once
pub not_at_once : (cut : Cut) → IsSoundCut cut → 0 < member_count cut → (entries : List ℤ) → IsRepeating cut 0 entries → ⊥
not_at_once cut sound l entries repeats =
    let row = member cut 0 in
    let sound_row = sound.each 0 no_member l in
    let u = get_or (block_uses cut row) 0 no_use in
    let block : u.block < block_count cut =
    ltb-true _ _ (filter_passes (λ (v : Use). is_block cut v.block) row.uses 0 no_use sound_row.some_block) in
    let test = λ (v : Use). v.block == u.block in
    let used : uses_place row u.block ≡ true =
    ap (list_any test) sound_row.blocks_first ∙ list_any-append test (block_uses cut row) (connection_uses cut row)
    ∙ or_left (list_any test (block_uses cut row)) (list_any test (connection_uses cut row))
    (list_any_at test (block_uses cut row) 0 no_use sound_row.some_block (eq-eqb u.block u.block refl)) in
    absurd (omega (arith, ints, takes_time_by cut sound 0 u.block l used (entry_at entries 0), repeats.again 0 0 u.block l l block used used))

-- the period that is tried: 0 at first, and then one that a ring allows
pub record IsSearched (cut : Cut) (period : ℕ) (ring : List Demand) : Type 0 where
  pub limit : (period ≡ 0) ⊎ IsLimit cut period ring
  pub most : period ≤ 200000000000

pub at_first : (cut : Cut) (ring : List Demand) → IsSearched cut 0 ring
at_first cut ring = record { limit = inl refl; most = omega arith }

pub found_it : (cut : Cut) → IsSoundCut cut → 0 < member_count cut → (period : ℕ) (ring : List Demand)
    → (period ≡ 0) ⊎ IsLimit cut period ring → (entries : List ℤ) → IsLeastRepeating cut period entries
    → IsLeastPeriod cut (record { period = period; entries = entries; ring = ring })
found_it cut sound some period ring limit entries least = record {
  limit = elim limit [
    | inl z ↦ absurd (not_at_once cut sound some entries (subst (λ t. IsRepeating cut t entries) z least.repeats))
    | inr is ↦ is
  ];
  least = least;
}

-- what a ring that refuses a period gives to the search
pub lights : (cut : Cut) (period : ℕ) (ring : List Demand) → IsRefusal cut period ring → All (λ (e : Demand). IsLight e.weight) ring
lights cut period ring refusal k d l = (refusal.is_loop.each k d l).light

pub positive : (cut : Cut) (period : ℕ) (ring : List Demand) → IsRefusal cut period ring → pos 0 <ℤ weights ring
positive cut period ring refusal =
    let more = refusal.more in
    let n = nat_times (laps ring) period in
    omega (arith, ints, more, n)

pub allows : (cut : Cut) (period result : ℕ) (ring : List Demand) → IsRefusal cut period ring
    → (pos (laps ring) *ℤ (pos result -ℤ pos 1)) <ℤ weights ring → result ≤ 200000000000 → IsSearched cut result ring
allows cut period result ring refusal more small = record {
  limit = inr (record { is_loop = refusal.is_loop; more = more });
  most = small;
}

pub rises : (cut : Cut) (period result : ℕ) (ring : List Demand) → IsRefusal cut period ring
    → weights ring ≤ℤ (pos (laps ring) *ℤ pos result) → period < result
rises cut period result ring refusal most = greater (laps ring) period result (weights ring) refusal.more most
