-- The places of a cut have different names.
use Rattle.std.proofs.Common.{◌≡◌, ◌≢◌, ℕ, true, false, List, [], ◌∷◌, map, get_or, All, AllPairs, subst, arith}
use Rattle.std.specs.List.{list_any}
use Rattle.std.proofs.lemmas.Bool.{or_parts, not-true, both_ways}
use Rattle.std.proofs.lemmas.List.Elements.{All-map, All-filter}
use Rattle.std.proofs.lemmas.List.Kept.{AllPairs-cons, AllPairs-filter}
use Rattle.std.proofs.lemmas.List.Sums.{AllPass-from_list_all}
use Rattle.rail_model.specs.declared.items.Section.{Section}
use Rattle.rail_model.specs.declared.items.Connection.{Connection}
use Rattle.rail_model.specs.declared.items.Item.TheVariants as item
use Rattle.rail_model.specs.declared.tables.Tables.{Tables}
use Rattle.rail_model.specs.Name.{IsBefore, is_same, has_repeat}
use Rattle.rail_model.specs.Rules.{has_block, Stands, IsSound}
use Rattle.rail_model.proofs.NameOrder.{is_same-before, is_same-from}
use Rattle.rail_model.proofs.Members.{none_passes}
use Rattle.plan_model.specs.Members.{place_names}
use Rattle.plan_model.specs.Cut.{binds, binding_connections, section_cut}
use Rattle.rail_model.proofs.Lists.{AllPairs-map, AllPairs-append}

-- names without a repeat differ
names_differ : (names : List (List ℕ)) → has_repeat names ≡ false → AllPairs (λ a b. a ≢ b) names
names_differ [] none = λ i j d before below. absurd (omega (arith, below))
names_differ (a ∷ names) none =
    let both = or_parts (list_any (is_same a) names) (has_repeat names) none in
    AllPairs-cons (λ a b. a ≢ b) a names
    (λ k d l same. both_ways (is_same a (get_or names k d)) (none_passes (is_same a) names both.0 k d l) (is_same-from a (get_or names k d) same))
    (names_differ names both.1)

module _ (tables : Tables) (sound : IsSound tables) (section : Section) where
  pub places_differ : Stands tables (item.Section section) → AllPairs (λ a b. a ≢ b) (place_names (section_cut tables section))
  places_differ stands =
      let some = binding_connections tables section in
      let name = λ (c : Connection). c.name in
      let rising : AllPairs (λ (a : Connection) (b : Connection). IsBefore a.name b.name) some =
      AllPairs-filter (λ (a : Connection) (b : Connection). IsBefore a.name b.name) (binds tables section) tables.connections sound.connections.names in
      let connections : AllPairs (λ a b. a ≢ b) (map name some) =
      AllPairs-map name (λ a b. a ≢ b) some
      (λ i j d before below same.
      both_ways (is_same (get_or some i d).name (get_or some j d).name)
      (is_same-before (get_or some i d).name (get_or some j d).name (rising i j d before below))
      (is_same-from (get_or some i d).name (get_or some j d).name same)) in
      let no_block : All (λ (n : List ℕ). has_block tables n ≡ false) (map name some) =
      All-map (λ (n : List ℕ). has_block tables n ≡ false) name some
      (All-filter (binds tables section) (λ (c : Connection). has_block tables c.name ≡ false) tables.connections sound.apart) in
      let blocks = AllPass-from_list_all (has_block tables) section.blocks stands.known in
      AllPairs-append (λ a b. a ≢ b) section.blocks (map name some)
      (names_differ section.blocks (not-true (has_repeat section.blocks) stands.no_repeat)) connections
      (λ k d below i e inside same.
      both_ways (has_block tables (get_or (map name some) i e)) (no_block i e inside)
      (subst (λ n. has_block tables n ≡ true) same (blocks k d below)))
