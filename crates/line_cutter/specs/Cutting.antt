-- Cuttings: a line cut into orderly pieces, each but the last so long that one block more would leave it without order.
use Rattle.std.specs.Prelude.{◌≡◌, ℕ, ◌+◌, ◌-◌, nat_abs, Bool, ◌&&◌, nat_le, nat_lt, List, [], map, filter, take, drop, None, ◌<◌, ◌≤◌, ◌∷◌, Err}
use Rattle.std.specs.List.{list_any}
use Rattle.rail_model.specs.declared.items.Section.{Section}
use Rattle.rail_model.specs.declared.stair.Use.{Use}
use Rattle.rail_model.specs.declared.limits.TheConstants.{GREATEST_MOMENT_S}
use Rattle.plan_model.specs.declared.cut.CutRow.{CutRow}
use Rattle.plan_model.specs.declared.cut.Cut.{Cut}
use Rattle.plan_model.specs.Cut.{least}
use Rattle.plan_model.specs.Disorder.{opposite, remaining}
use Rattle.plan_model.specs.Members.{block_count}
use Rattle.train_order.specs.Ordering.{IsOrdering}
use Rattle.line_cutter.specs.Types.{Stretch, Cutting}

-- a use of one of the blocks from a to before b
abbrev pub is_within : ℕ → ℕ → Use → Bool
is_within a b u = nat_le a u.block && nat_lt u.block b

-- the same use, with the block's position in the piece
abbrev pub moved_use : ℕ → Use → Use
moved_use a u = record u { block = u.block - a }

-- a member's uses of these blocks
abbrev pub piece_uses : ℕ → ℕ → CutRow → List Use
piece_uses a b row = map (moved_use a) (filter (is_within a b) row.uses)

-- a member uses one of them
abbrev pub uses_piece : ℕ → ℕ → CutRow → Bool
uses_piece a b row = list_any (is_within a b) row.uses

-- a member with its uses of the piece alone, which it enters at the least of their starts
abbrev pub piece_row : ℕ → ℕ → CutRow → CutRow
piece_row a b row = record row { entry = least (map (λ u. u.start) (piece_uses a b row)); uses = piece_uses a b row }

-- these blocks, with a window that ends a second after the greatest moment: no train enters too late to be counted
abbrev pub piece_section : Section → ℕ → ℕ → Section
piece_section section a b = record section { to_s = nat_abs GREATEST_MOMENT_S + 1; blocks = drop a (take b section.blocks) }

-- the piece of a cut from block a to before block b: the members that use it, with no connections
abbrev pub piece : Cut → ℕ → ℕ → Cut
piece cut a b = record {
  section = piece_section cut.section a b;
  connections = [];
  rows = map (piece_row a b) (filter (uses_piece a b) cut.rows);
}

-- a cut is orderly: no two members are opposite, and none remains
pub record IsOrderly (cut : Cut) : Type 0 where
  pub not_opposite : opposite cut ≡ None
  pub none_remains : remaining cut ≡ []

-- from block a on, pieces with these ends are orderly, and the last ends with the line
abbrev pub AreOrderly : Cut → ℕ → List ℕ → Type 0
AreOrderly cut a [] = a ≡ block_count cut
AreOrderly cut a (b ∷ ends) = (a < b) × (b ≤ block_count cut) × IsOrderly (piece cut a b) × AreOrderly cut b ends

-- the stretch of the piece from block a to before block b: the piece and the next block, with the disorder of these
pub record IsStretch (cut : Cut) (a b : ℕ) (stretch : Stretch) : Type 0 where
  pub first : stretch.first ≡ a
  pub last : stretch.last ≡ b
  pub disorder : IsOrdering (piece cut a (b + 1)) (Err stretch.disorder)

-- from block a on, each piece but the last has its stretch
abbrev pub AreStretches : Cut → ℕ → List ℕ → List Stretch → Type 0
AreStretches cut a [] stretches = ⊥
AreStretches cut a (b ∷ ends) [] = (b ≡ block_count cut) × (ends ≡ [])
AreStretches cut a (b ∷ ends) (stretch ∷ stretches) =
    (b < block_count cut) × IsStretch cut a b stretch × AreStretches cut b ends stretches

pub record IsCutting (cut : Cut) (cutting : Cutting) : Type 0 where
  pub orderly : AreOrderly cut 0 cutting.ends
  pub stretches : AreStretches cut 0 cutting.ends cutting.stretches
