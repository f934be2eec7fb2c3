-- The cut of a section that is kept: what is known of it.
use Rattle.std.proofs.Common.{◌≡◌, map, Some, refl, ap, ◌∙◌}
use Rattle.std.specs.Prelude.{find, filter}
use Rattle.rail_model.specs.declared.items.Section.{Section}
use Rattle.rail_model.specs.declared.items.Connection.{Connection}
use Rattle.rail_model.specs.declared.tables.Tables.{Tables}
use Rattle.rail_model.specs.Name.{is_same, NamesRise}
use Rattle.plan_model.specs.declared.cut.Cut.{Cut}
use Rattle.plan_model.specs.Cut.{stamped, stamped_row, IsSoundCut, is_member, row_of, binding_connections, section_cut}
use Rattle.section_cut.specs.declared.cut_changes.StoredCut.{StoredCut}
use Rattle.section_cut.specs.Stored.{IsStored}
use Rattle.section_cut.proofs.OldRows.{cut_names, cut_names_rise, cut_rows}
use Rattle.section_cut.proofs.OneRun.{cut_is, located}
use Rattle.section_cut.proofs.SameValue.{sound_cut_of}

module _ {stored : StoredCut} (is : IsStored stored) where
  abbrev earlier : Tables
  earlier = stored.both.before.now

  abbrev old : Cut
  old = stored.cut.now

  pub sound_stored : IsSoundCut old
  sound_stored = sound_cut_of earlier is.earlier_sound stored.section.now old is.is

  -- it is made by the earlier tables
  pub stored_is : section_cut earlier old.section ≡ stamped 0 old
  stored_is = cut_is earlier stored.section.now old is.is

  pub stored_names : old.connections ≡ map (λ (x : Connection). x.name) (binding_connections earlier old.section)
  stored_names = cut_names earlier old.section old stored_is

  pub stored_names_rise : NamesRise (λ n. n) old.connections
  stored_names_rise = cut_names_rise earlier old.section old stored_is is.earlier_sound

  pub stored_rows : map (stamped_row 0) old.rows ≡ map (row_of earlier old.section) (filter (is_member earlier old.section) earlier.runs)
  stored_rows = cut_rows earlier old.section old stored_is

  -- the section is there after the edit, where sections stay
  pub stored_section : stored.both.after.now.sections ≡ earlier.sections
      → find (λ (x : Section). is_same x.name stored.section.now) stored.both.after.now.sections ≡ Some old.section
  stored_section same =
      ap (find (λ (x : Section). is_same x.name stored.section.now)) same
      ∙ (located earlier stored.section.now old (find (λ (x : Section). is_same x.name stored.section.now) earlier.sections) refl is.is).0
