-- A section of sound tables: its window, and how many blocks it has.
use Rattle.std.proofs.Common.{◌≡◌, ℕ, ◌<◌, ◌≤◌, length, true, arith}
use Rattle.std.proofs.lemmas.Bool.Decides.{nat_tests}
use Rattle.rail_model.specs.declared.items.Section.{Section}
use Rattle.rail_model.specs.declared.items.Item.TheVariants as item
use Rattle.rail_model.specs.declared.tables.Tables.{Tables}
use Rattle.rail_model.specs.declared.limits.TheConstants.{PATH_HOPS, GREATEST_START_S}
use Rattle.rail_model.specs.Within.{is_section_within}
use Rattle.rail_model.specs.Rules.{Stands, IsSound}
use Rattle.rail_model.specs.Tables.{no_section, section_at}

pub record IsSectionWithin (s : Section) : Type 0 where
  pub some : 0 < length s.blocks
  pub most : length s.blocks ≤ PATH_HOPS
  pub start : s.from_s ≤ GREATEST_START_S
  pub window : s.from_s < s.to_s

pub section_facts : (s : Section) → is_section_within s ≡ true → IsSectionWithin s
section_facts s h = grind (arith, nat_tests)

module _ (tables : Tables) (sound : IsSound tables) (n : ℕ) (l : n < length tables.sections) where
  pub section_stands : Stands tables (item.Section (section_at tables n))
  section_stands = sound.sections.each n no_section l

  pub section_within : IsSectionWithin (section_at tables n)
  section_within = section_facts (section_at tables n) section_stands.within
