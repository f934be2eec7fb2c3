-- Stairs with the uses of some blocks alone: those in the sections that an edit can touch.
use Rattle.std.proofs.Common.{◌≡◌, ℕ, ◌<◌, Bool, true, false, cond, ltb, List, [], ◌∷◌, length, map, get_or, Option, Some, None, refl, inl, inr, arith}
use Rattle.std.specs.Prelude.{All, filter, IfSome}
use Rattle.std.proofs.lemmas.Bool.{cases_Bool, both_ways, ltb-true}
use Rattle.std.proofs.lemmas.List.Elements.{All-head, All-tail, All-filter}
use Rattle.rail_model.specs.declared.items.Section.{Section}
use Rattle.rail_model.specs.declared.stair.Use.{Use}
use Rattle.rail_model.specs.declared.tables.Tables.{Tables}
use Rattle.rail_model.specs.Blocking.{stairway}
use Rattle.rail_model.specs.Tables.{run_at, section_at, path_in}
use Rattle.rail_model.specs.Rules.{IsSound}
use Rattle.rail_model.proofs.Timetables.{used_there}
use Rattle.plan_model.specs.Cut.{use_in_section}
use Rattle.section_cut.specs.Positions.{IsPositions}
use Rattle.section_cut.specs.Wanted.{IsBeside, LacksBlock, IsStairOf, HasSection, HasAll, stair_wanted}

-- ---- what is told of blocks

-- a section without the block is so by the positions of blocks, too
pub lacks_beside : (tables : Tables) (section : Section) (positions : List ℕ) → IsPositions tables section positions → (block : Option ℕ)
    → LacksBlock tables block section → IsBeside block positions (length section.blocks)
lacks_beside tables section positions table None lacks = lacks
lacks_beside tables section positions table (Some block) lacks =
    (omega (arith, lacks.0, table.count), omega (arith, lacks.1, table.each block lacks.0))

-- the blocks of the sections so far
pub record AreTold (tables : Tables) (block : ℕ) (n : ℕ) (told : List Bool) : Type 0 where
  pub count : length told ≡ length tables.blocks
  pub each : (k : ℕ) → k < n → (LacksBlock tables (Some block) (section_at tables k) → ⊥) → HasSection tables (section_at tables k) told

-- ---- a run's stair

-- a test that all pass that are inside leaves those that are
module _ {X Y : Type 0} (test : X → Bool) (place : X → Y) (inside : Y → Bool) where
  abbrev IsKept : X → Type 0
  IsKept x = inside (place x) ≡ true → test x ≡ true

  kept_inside : (xs : List X) → All IsKept xs → filter inside (map place (filter test xs)) ≡ filter inside (map place xs)
  kept_inside [] each = refl
  kept_inside (x ∷ xs) each =
      let rest = kept_inside xs (All-tail IsKept x xs each) in
      elim (cases_Bool (test x)) [
        | inl e ↦ rw e (λ i. cond (inside (place x)) (place x ∷ rest i) (rest i))
        | inr e ↦ elim (cases_Bool (inside (place x))) [
          | inl within ↦ absurd (both_ways (test x) e (All-head IsKept x xs each within))
          | inr out ↦ rw (e, out) rest
        ]
      ]

pub stair_is : (tables : Tables) → IsSound tables → (block : Option ℕ) (n : ℕ) → n < length tables.runs → (told : Option (List Bool)) → IfSome told (HasAll tables block)
    → IsStairOf tables block (run_at tables n) (stair_wanted told (path_in tables (run_at tables n)))
stair_is tables sound block n below None has = record { name = refl; there = used_there tables sound n below; uses = λ s touched. refl }
stair_is tables sound block n below (Some told) has =
    let uses = stairway (path_in tables (run_at tables n)) in
    let there = used_there tables sound n below in
    let test = λ (u : Use). get_or told u.block false in record {
      name = refl;
      there = All-filter test (λ (u : Use). u.block < length tables.blocks) uses there;
      uses = λ s touched.
          kept_inside test (use_in_section tables s) (λ u. ltb u.block (length s.blocks)) uses
          (λ k d l within. has s touched (get_or uses k d).block (there k d l) (ltb-true _ _ within));
    }
