-- How the tables of a line still fit together after an edit of a block that no rule refuses.
use Rattle.std.proofs.Common.{◌≡◌, ℕ, true, false, List, Some, None, refl, sym, ◌∙◌}
use Rattle.std.specs.Prelude.{option_map}
use Rattle.std.specs.List.{list_any}
use Rattle.std.proofs.lemmas.Bool.{or_parts}
use Rattle.rail_model.specs.declared.items.Block.{Block}
use Rattle.rail_model.specs.declared.items.Signal.{Signal}
use Rattle.rail_model.specs.declared.items.Section.{Section}
use Rattle.rail_model.specs.declared.items.Item.TheVariants as item
use Rattle.rail_model.specs.declared.edit.Kind.TheVariants as kind
use Rattle.rail_model.specs.Name.{is_same}
use Rattle.rail_model.specs.Rules.{is_named, lists, rule_of_put, rule_of_change, rule_of_drop, with_item, without, IsSound}
use Rattle.rail_model.proofs.Sound.{accepted, changeable, free, IsSound-after_put, IsSound-after_change, IsSound-after_drop}
use Rattle.line_tables.specs.Table.{under, with_change, key_of, IsTable}
use Rattle.line_tables.specs.Links.{IsLinked}
use Rattle.line_tables.specs.Inside.{WholeTables, items_of, tables_of, names_of_signal, names_of_section, IsJoined}
use Rattle.line_tables.proofs.Filed.{stored_at}
use Rattle.line_tables.proofs.Entries.{is_some-key_of}
use Rattle.line_tables.proofs.Views.{is_named-map, map-with_item, map-with_change, map-without}
use Rattle.line_tables.proofs.Joined.{is_listed, to_put, to_change, to_drop, unreferred}
use Rattle.line_tables.proofs.Labels.{block_name}

module _ (t : WholeTables) where
  -- other blocks, to which signals and sections refer
  blocks_joined : (blocks : List (ℕ × Block)) → IsJoined t → IsSound (tables_of (record t { blocks = blocks })) → IsLinked names_of_signal block_name t.signals blocks → IsLinked names_of_section block_name t.sections blocks → IsJoined (record t { blocks = blocks })
  blocks_joined blocks j sound signals sections = record {
    sound = sound;
    signals = signals;
    routes = j.routes;
    runs = j.runs;
    sections = sections;
    connections = j.connections;
    block_uses = j.block_uses;
    signal_uses = j.signal_uses;
    route_uses = j.route_uses;
    run_uses = j.run_uses;
    signal_routes = j.signal_routes;
    block_routes = j.block_routes;
  }

  named_block : (n : List ℕ) → is_named block_name (tables_of t).blocks n ≡ is_named (λ e. e.1.name) t.blocks n
  named_block n = is_named-map (λ (e : ℕ × Block). e.1) block_name t.blocks n

  pub block_is_new : (x : Block) → rule_of_put (tables_of t) (item.Block x) ≡ None → is_named (λ e. e.1.name) t.blocks x.name ≡ false
  block_is_new x none = sym (named_block x.name) ∙ (or_parts _ _ (accepted (tables_of t) (item.Block x) none).new).0

  pub block_put : (key : ℕ) (x : Block) → IsJoined t → IsTable block_name t.blocks → rule_of_put (tables_of t) (item.Block x) ≡ None → IsJoined (record t { blocks = with_item (λ e. e.1.name) t.blocks (key, x) })
  block_put key x j table none =
      let new = block_is_new x none in
      blocks_joined (with_item (λ e. e.1.name) t.blocks (key, x)) j
      (rw (map-with_item (λ (e : ℕ × Block). e.1) block_name t.blocks (key, x)) (IsSound-after_put (tables_of t) (item.Block x) j.sound none))
      (to_put names_of_signal (λ x. x.name) block_name t.signals t.blocks j.signals table key x new)
      (to_put names_of_section (λ x. x.name) block_name t.sections t.blocks j.sections table key x new)

  pub block_stays : (x : Block) → rule_of_change (tables_of t) (item.Block x) ≡ None → is_named (λ e. e.1.name) t.blocks x.name ≡ true
  block_stays x none = sym (named_block x.name) ∙ (changeable (tables_of t) (item.Block x) none).there

  pub block_change : (key : ℕ) (x : Block) → IsJoined t → IsTable block_name t.blocks → option_map block_name (under t.blocks key) ≡ Some x.name → rule_of_change (tables_of t) (item.Block x) ≡ None → IsJoined (record t { blocks = with_change t.blocks key x })
  block_change key x j table same none =
      blocks_joined (with_change t.blocks key x) j
      (rw (map-with_change (λ (b : Block). b) block_name t.blocks key x table same) (IsSound-after_change (tables_of t) (item.Block x) j.sound none))
      (to_change names_of_signal (λ x. x.name) block_name t.signals t.blocks j.signals table key x same)
      (to_change names_of_section (λ x. x.name) block_name t.sections t.blocks j.sections table key x same)

  pub block_is_there : (n : List ℕ) → rule_of_drop (tables_of t) kind.Block n ≡ None → is_named (λ e. e.1.name) t.blocks n ≡ true
  block_is_there n none = sym (named_block n) ∙ (free (tables_of t) kind.Block n none).there

  -- neither a signal nor a section refers to a block that may be dropped
  pub block_drop : (n : List ℕ) → IsJoined t → IsTable block_name t.blocks → rule_of_drop (tables_of t) kind.Block n ≡ None → IsJoined (record t { blocks = without (λ e. e.1.name) t.blocks n })
  block_drop n j table none =
      let key = stored_at (key_of block_name t.blocks n) (is_some-key_of block_name t.blocks n ∙ block_is_there n none) in
      let unused = or_parts (list_any (λ (s : Signal). is_same s.block n) (items_of t.signals)) (list_any (λ (s : Section). lists s.blocks n) (items_of t.sections)) (free (tables_of t) kind.Block n none).unused in
      let no_signal = unreferred names_of_signal (λ x. x.name) block_name t.signals t.blocks j.signals table n key.0 key.1 (λ s. is_same s.block n) (λ s. is_listed s.block n) unused.0 in
      let no_section = unreferred names_of_section (λ x. x.name) block_name t.sections t.blocks j.sections table n key.0 key.1 (λ s. lists s.blocks n) (λ s. refl) unused.1 in
      blocks_joined (without (λ e. e.1.name) t.blocks n) j
      (rw (map-without (λ (e : ℕ × Block). e.1) block_name t.blocks n) (IsSound-after_drop (tables_of t) kind.Block n j.sound none))
      (to_drop names_of_signal (λ x. x.name) block_name t.signals t.blocks j.signals table n key.0 key.1 no_signal)
      (to_drop names_of_section (λ x. x.name) block_name t.sections t.blocks j.sections table n key.0 key.1 no_section)
