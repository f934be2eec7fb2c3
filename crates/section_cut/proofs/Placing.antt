-- The table of positions: as far as it is filled, from the last name of the section's list on; and uses by it.
use Rattle.std.proofs.Common.{◌≡◌, ℕ, ◌+◌, ◌-◌, ◌<◌, ◌≤◌, Bool, true, false, not, cond, ltb, List, [], ◌∷◌, ◌++◌, map, length, get_or, take, drop, set, All, refl, sym, ap, ◌∙◌, subst, inl, inr, arith}
use Rattle.std.specs.Prelude.{filter, slice_set}
use Rattle.std.proofs.lemmas.Bool.{cases_Bool, cases_eq, lt-ltb, le-ltb}
use Rattle.std.proofs.lemmas.List.{append-nil, length-set, get_or-set_same, get_or-set_other, get_or-map, length-map, map_more, take_more, take_more_set, take_all}
use Rattle.std.proofs.lemmas.List.Elements.{filter-append}
use Rattle.std.proofs.lemmas.List.Sums.{AllPass-from_list_all, passes_at_first, prefix_len-drop_yes, prefix_len-drop_no}
use Rattle.rail_model.specs.declared.items.Block.{Block}
use Rattle.rail_model.specs.declared.items.Section.{Section}
use Rattle.rail_model.specs.declared.tables.Tables.{Tables}
use Rattle.rail_model.specs.declared.stair.Use.{Use}
use Rattle.rail_model.specs.Name.{is_same}
use Rattle.rail_model.specs.Tables.{number_of, no_block, section_at, block_number, block_name}
use Rattle.rail_model.specs.Rules.{has_block, IsSound}
use Rattle.rail_model.proofs.NameOrder.{same_name, is_same-sym, names_apart}
use Rattle.rail_model.proofs.Paths.{place_within}
use Rattle.section_cut.proofs.Sections.{section_stands}
use Rattle.rail_model.proofs.Places.{filter_all}
use Rattle.section_cut.specs.Positions.{IsPositions, IsPlaced, AreSameTo, ArePlaced, with_position, uses_in}

-- from some name of the section's list on, the table has what the rest of the list says
pub record IsFilled (tables : Tables) (section : Section) (from : ℕ) (table : List ℕ) : Type 0 where
  pub count : length table ≡ length tables.blocks
  pub each : (block : ℕ) → block < length tables.blocks
      → get_or table block 0 ≡ from + number_of (λ (n : List ℕ). n) (drop from section.blocks) (block_name tables block)

module _ (tables : Tables) where
  -- the position of a name that is a block's
  pub placed_there : IsSound tables → (name : List ℕ) (n position : ℕ) (before : List ℕ) → n ≡ block_number tables name
      → n < length tables.blocks → length before ≡ length tables.blocks
      → IsPlaced tables name position before (slice_set before n position)
  placed_there sound name n position before number l count =
      let here : is_same (block_name tables n) name ≡ true =
      subst (λ k. is_same (block_name tables k) name ≡ true) (sym number)
      (passes_at_first (λ (x : Block). is_same x.name name) tables.blocks no_block (omega (arith, number, l))) in
      let named = is_same-sym name (block_name tables n) ∙ here in
      let is : name ≡ block_name tables n = same_name name (block_name tables n) named in
      record {
        count = length-set before n position;
        each = λ block below. elim (cases_eq block n) [
          | inl e ↦ subst
              (λ k. get_or (slice_set before n position) k 0 ≡ cond (is_same name (block_name tables k)) position (get_or before k 0))
              (sym e) (rw named (get_or-set_same before n position 0 (omega (arith, l, count))))
          | inr differ ↦
              let other : is_same name (block_name tables block) ≡ false =
              subst (λ m. is_same m (block_name tables block) ≡ false) (sym is) (names_apart (λ (b : Block). b.name) tables.blocks no_block sound.blocks.names n block l below (λ e. differ (sym e))) in
              rw other (get_or-set_other before n block position 0 differ)
        ];
      }

  module _ (section : Section) where
    pub filled_more : (from : ℕ) (before after : List ℕ) → from < length section.blocks
        → IsFilled tables section (from + 1) before → IsPlaced tables (get_or section.blocks from []) from before after
        → IsFilled tables section from after
    filled_more from before after l filled one = record {
      count = one.count ∙ filled.count;
      each = λ block below.
          let name = block_name tables block in
          let fails : List ℕ → Bool = λ n. not (is_same n name) in
          let at = one.each block below in
          elim (cases_Bool (is_same (get_or section.blocks from []) name)) [
            | inl e ↦
                let none = prefix_len-drop_no fails section.blocks from [] l (rw e refl) in
                let here : get_or after block 0 ≡ from = rw e at at in
                omega (arith, none, here)
            | inr e ↦
                let more = prefix_len-drop_yes fails section.blocks from [] l (rw e refl) in
                let here : get_or after block 0 ≡ get_or before block 0 = rw e at at in
                omega (arith, more, here, filled.each block below)
          ];
    }

    pub filled_all : (from : ℕ) (table : List ℕ) → from ≡ 0 → IsFilled tables section from table
        → IsPositions tables section table
    filled_all from table none filled = record {
      count = filled.count;
      each = λ block below.
          let first = subst (λ k. get_or table block 0 ≡ k + number_of (λ (n : List ℕ). n) (drop k section.blocks) (block_name tables block)) none (filled.each block below) in
          omega (arith, first);
    }

-- the table with the position of one block more of the section of a number, by the numbers of its blocks
module _ (tables : Tables) (sound : IsSound tables) (n : ℕ) (l : n < length tables.sections) (blocks : List ℕ) (is : blocks ≡ map (block_number tables) (section_at tables n).blocks) (later : ℕ) (more : later < length blocks) where
  abbrev section : Section
  section = section_at tables n

  abbrev at : ℕ
  at = length blocks - 1 - later

  count : length blocks ≡ length section.blocks
  count = ap length is ∙ length-map section.blocks (block_number tables)

  name_there : has_block tables (get_or section.blocks at []) ≡ true
  name_there = AllPass-from_list_all (has_block tables) section.blocks (section_stands tables sound n l).known at [] (omega (arith, count, more))

  its_number : (d : ℕ) → get_or blocks at d ≡ block_number tables (get_or section.blocks at [])
  its_number d = ap (λ bs. get_or bs at d) is ∙ get_or-map (block_number tables) section.blocks at [] d (omega (arith, count, more))

  pub placed_within : (d : ℕ) → get_or blocks at d < length tables.blocks
  placed_within d =
      let within = place_within (λ (b : Block). is_same b.name (get_or section.blocks at [])) tables.blocks name_there in
      omega (arith, its_number d, within)

  pub filled_next : (d : ℕ) (before : List ℕ) → IsFilled tables section (length section.blocks - later) before
      → IsFilled tables section (length section.blocks - (later + 1)) (slice_set before (get_or blocks at d) at)
  filled_next d before filled =
      let Filled : ℕ → List ℕ → Type 0 = λ k table. IsFilled tables section k table in
      let from : at + 1 ≡ length section.blocks - later = omega (arith, count, more) in
      let to : at ≡ length section.blocks - (later + 1) = omega (arith, count, more) in
      subst (λ k. Filled k (slice_set before (get_or blocks at d) at)) to
      (filled_more tables section at before (slice_set before (get_or blocks at d) at) (omega (arith, count, more)) (subst (λ k. Filled k before) (sym from) filled)
      (placed_there tables sound (get_or section.blocks at []) (get_or blocks at d) at before (its_number d) (placed_within d) filled.count))

-- the uses in the section, with one use more
pub uses_in_more : (positions : List ℕ) (blocks : ℕ) (uses : List Use) (i : ℕ) (d : Use) → i < length uses
    → uses_in positions blocks (take (i + 1) uses)
    ≡ uses_in positions blocks (take i uses)
    ++ cond (ltb (get_or positions (get_or uses i d).block 0) blocks) (with_position positions (get_or uses i d) ∷ []) []
uses_in_more positions blocks uses i d l =
    let inside : Use → Bool = λ u. ltb u.block blocks in
    ap (filter inside) (map_more (with_position positions) uses i d l)
    ∙ filter-append inside (map (with_position positions) (take i uses)) (with_position positions (get_or uses i d) ∷ [])

pub uses_in_yes : (positions : List ℕ) (blocks : ℕ) (uses : List Use) (i : ℕ) (d : Use) → i < length uses
    → get_or positions (get_or uses i d).block 0 < blocks
    → uses_in positions blocks (take (i + 1) uses) ≡ uses_in positions blocks (take i uses) ++ with_position positions (get_or uses i d) ∷ []
uses_in_yes positions blocks uses i d l inside =
    uses_in_more positions blocks uses i d l
    ∙ ap (λ b. uses_in positions blocks (take i uses) ++ cond b (with_position positions (get_or uses i d) ∷ []) [])
    (lt-ltb (get_or positions (get_or uses i d).block 0) blocks inside)

pub uses_in_no : (positions : List ℕ) (blocks : ℕ) (uses : List Use) (i : ℕ) (d : Use) → i < length uses
    → blocks ≤ get_or positions (get_or uses i d).block 0
    → uses_in positions blocks (take (i + 1) uses) ≡ uses_in positions blocks (take i uses)
uses_in_no positions blocks uses i d l outside =
    uses_in_more positions blocks uses i d l
    ∙ ap (λ b. uses_in positions blocks (take i uses) ++ cond b (with_position positions (get_or uses i d) ∷ []) [])
    (le-ltb (get_or positions (get_or uses i d).block 0) blocks outside)
    ∙ append-nil (uses_in positions blocks (take i uses))

-- ---- all uses of a stairway at their positions

-- one use more is that of the stairway
pub same_more : (positions : List ℕ) (uses stairway : List Use) (i : ℕ) (d : Use) → length uses ≡ length stairway → i < length uses
    → with_position positions (get_or stairway i d) ≡ get_or uses i d → AreSameTo positions uses stairway i → AreSameTo positions uses stairway (i + 1)
same_more positions uses stairway i d long inside same so_far = record {
  within = omega (arith, inside);
  same =
      map_more (with_position positions) stairway i d (omega (arith, inside, long))
      ∙ ap (λ us. us ++ with_position positions (get_or stairway i d) ∷ []) so_far.same
      ∙ ap (λ u. take i uses ++ u ∷ []) same
      ∙ sym (take_more uses i d inside);
}

-- one use more is at its position
pub placed_more : (positions : List ℕ) (stairway uses : List Use) (i : ℕ) (d : Use) → i < length stairway → i < length uses
    → map (with_position positions) (take i stairway) ≡ take i uses
    → map (with_position positions) (take (i + 1) stairway) ≡ take (i + 1) (set uses i (with_position positions (get_or stairway i d)))
placed_more positions stairway uses i d below inside so_far =
    let one = with_position positions (get_or stairway i d) in
    map_more (with_position positions) stairway i d below
    ∙ ap (λ us. us ++ one ∷ []) so_far
    ∙ sym (take_more_set uses i one inside)

-- and all of them
pub placed_all : (positions : List ℕ) (blocks : ℕ) (stairway uses : List Use) (i : ℕ) → length uses ≡ length stairway → length uses ≤ i
    → map (with_position positions) (take i stairway) ≡ take i uses → All (λ (u : Use). u.block < blocks) uses
    → ArePlaced positions blocks stairway uses
placed_all positions blocks stairway uses i long past same inside = record {
  are =
      sym (take_all i uses past) ∙ sym same
      ∙ ap (map (with_position positions)) (take_all i stairway (omega (arith, long, past)));
  inside = inside;
}

-- they are its uses in the section
pub placed_in : (positions : List ℕ) (blocks : ℕ) (uses placed : List Use) → ArePlaced positions blocks uses placed
    → uses_in positions blocks uses ≡ placed
placed_in positions blocks uses placed one =
    let inside : Use → Bool = λ u. ltb u.block blocks in
    ap (filter inside) (sym one.are)
    ∙ filter_all inside placed (λ k d l. lt-ltb (get_or placed k d).block blocks (one.inside k d l))
