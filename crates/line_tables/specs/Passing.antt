-- Which runs pass a signal and a block: those whose route lists the signal, or a signal of the block.
use Rattle.std.specs.Prelude.{ℕ, ◌<◌, ◌^◌, Bool, List, length, slice_index}
use Rattle.std.specs.List.{list_any}
use Rattle.rail_model.specs.declared.items.Run.{Run}
use Rattle.rail_model.specs.declared.items.Section.{Section}
use Rattle.rail_model.specs.declared.tables.Tables.{Tables}
use Rattle.rail_model.specs.Name.{is_same}
use Rattle.rail_model.specs.Tables.{signal_named, route_named}

-- a run passes the signal of a name
abbrev pub passes_signal : Tables → List ℕ → Run → Bool
passes_signal tables name run = list_any (λ m. is_same m name) (route_named tables run.route).signals

-- it passes the block of a name
abbrev pub passes_block : Tables → List ℕ → Run → Bool
passes_block tables name run =
    list_any (λ m. is_same (signal_named tables m).block name) (route_named tables run.route).signals

-- it passes a block of a section
abbrev pub passes_section : Tables → Section → Run → Bool
passes_section tables section run = list_any (λ name. passes_block tables name run) section.blocks

-- a number stands at a key, and fits a block's
pub record IsNumberAt (numbers : List ℕ) (key : ℕ) : Type 0 where
  pub within : key < length numbers
  pub fits : slice_index numbers key < 2 ^ 32
