-- One row of a cut after an edit: its value and its stamp.
use Rattle.std.proofs.Common.{◌≡◌, ℕ, ◌<◌, ltb, List, map, length, get_or, Option, Some, None, refl, sym, ap, ◌∙◌, inl}
use Rattle.std.specs.Prelude.{All, option_map, IfSome}
use Rattle.std.proofs.lemmas.Bool.{ltb-true}
use Rattle.std.proofs.lemmas.List.Elements.{filter_passes}
use Rattle.rail_model.specs.declared.items.Section.{Section}
use Rattle.rail_model.specs.declared.stair.Use.{Use}
use Rattle.rail_model.specs.declared.stair.Stair.{Stair}
use Rattle.plan_model.specs.declared.cut.CutRow.{CutRow}
use Rattle.plan_model.specs.Cut.{stamped_row, AreBlocksFirst}
use Rattle.section_cut.specs.Members.{enters, member_row}
use Rattle.section_cut.specs.Positions.{with_position, uses_in}
use Rattle.section_cut.specs.Connected.{block_part, with_rest}
use Rattle.section_cut.specs.ReachedRuns.{IsOwnRow, IsRowAfter}
use Rattle.section_cut.specs.Spans.{IsLookedAt}
use Rattle.section_cut.proofs.OneRun.{bare_member}
use Rattle.section_cut.proofs.Placing.{placed_in}

-- the value of what is made
pub bare_made : (s : Section) (name : List ℕ) (stamp : ℕ) (uses : List Use)
    → option_map (stamped_row 0) (member_row s name stamp uses) ≡ member_row s name 0 uses
bare_made s name stamp uses = bare_member s name stamp uses (enters s uses) refl

-- and with uses of connections
module _ (s : Section) (own : Option CutRow) where
  stamped_joined : (o : Option CutRow) → option_map (stamped_row 0) (option_map (with_rest s own) o) ≡ option_map (with_rest s own) (option_map (stamped_row 0) o)
  stamped_joined None = refl
  stamped_joined (Some r) = ap Some (by_own own)
    where
      by_own : (o : Option CutRow) → stamped_row 0 (with_rest s o r) ≡ with_rest s o (stamped_row 0 r)
      by_own None = refl
      by_own (Some m) = refl

  rest_same : (o : Option CutRow) → option_map (with_rest s own) o ≡ option_map (with_rest s (option_map (stamped_row 0) own)) o
  rest_same None = refl
  rest_same (Some r) = ap Some (by_own own)
    where
      by_own : (o : Option CutRow) → with_rest s o r ≡ with_rest s (option_map (stamped_row 0) o) r
      by_own None = refl
      by_own (Some m) = refl

  pub joined_made : (name : List ℕ) (stamp : ℕ) (uses : List Use) → option_map (stamped_row 0) (option_map (with_rest s own) (member_row s name stamp uses))
      ≡ option_map (with_rest s (option_map (stamped_row 0) own)) (member_row s name 0 uses)
  joined_made name stamp uses =
      stamped_joined (member_row s name stamp uses) ∙ ap (option_map (with_rest s own)) (bare_made s name stamp uses) ∙ rest_same (member_row s name 0 uses)

pub blocks_inside : (section : Section) (own : CutRow) → All (λ (u : Use). u.block < length section.blocks) (block_part section own.uses)
blocks_inside section own k d l =
    ltb-true (get_or (block_part section own.uses) k d).block (length section.blocks) (filter_passes (λ (u : Use). ltb u.block (length section.blocks)) own.uses k d l)

module _ (section : Section) (stair : Stair) (own : CutRow) (is : IsOwnRow section stair.run own) (positions : List ℕ) (uses : List Use) (looked : IsLookedAt positions (length section.blocks) uses stair) where
  -- a stair of the same uses of blocks gives the same row
  pub same_value : map (with_position positions) uses ≡ block_part section own.uses
      → option_map (with_rest section (Some (stamped_row 0 own))) (member_row section stair.run 0 (uses_in positions (length section.blocks) stair.uses)) ≡ Some (stamped_row 0 own)
  same_value same =
      ap (λ us. option_map (with_rest section (Some (stamped_row 0 own))) (member_row section stair.run 0 us))
      (sym looked.same ∙ placed_in positions (length section.blocks) uses (block_part section own.uses) (record { are = sym same; inside = blocks_inside section own }))
      ∙ ap (option_map (with_rest section (Some (stamped_row 0 own)))) is.member
      ∙ ap (λ us. Some (record own { stamp = 0; uses = us })) (sym is.first)

  pub same_after : (number : ℕ) → map (with_position positions) uses ≡ block_part section own.uses
      → IsRowAfter (option_map (with_rest section (Some (stamped_row 0 own))) (member_row section stair.run 0 (uses_in positions (length section.blocks) stair.uses))) number (Some own) (Some own)
  same_after number same = record { value = sym (same_value same); stamp = inl refl }

-- the uses of blocks of the row before the edit stand first
pub own_first : (section : Section) (name : List ℕ) (own : Option CutRow) → IfSome own (IsOwnRow section name)
    → IfSome own (λ r. AreBlocksFirst (length section.blocks) r.uses)
own_first section name None is = tt
own_first section name (Some row) is = is.first
