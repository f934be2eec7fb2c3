-- Routes with the names of their signals: what their table finds, and what edits of it leave.
use Rattle.std.proofs.Common.{◌≡◌, ℕ, ◌==◌, List, [], ◌∷◌, map, get_or, Option, Some, refl, sym, ap, ◌∙◌, inl, inr, arith}
use Rattle.std.specs.Prelude.{All, option_map, unwrap_or, sum}
use Rattle.std.proofs.lemmas.Bool.{cases_Bool, eqb-true}
use Rattle.std.proofs.lemmas.List.{get_or-map, length-map}
use Rattle.std.proofs.lemmas.List.Elements.{All-map}
use Rattle.std.proofs.lemmas.List.Sums.{sum-map}
use Rattle.std.proofs.lemmas.Simd.{map-map}
use Rattle.rail_model.specs.declared.items.Signal.{Signal}
use Rattle.rail_model.specs.declared.items.Route.{Route}
use Rattle.rail_model.specs.Name.{IsBefore, is_same}
use Rattle.rail_model.specs.Rules.{is_named, with_item, without}
use Rattle.rail_model.proofs.Lists.{map_same, map_itself, AllPairs-map}
use Rattle.line_tables.specs.declared.kept_route.KeptRoute.{KeptRoute}
use Rattle.line_tables.specs.declared.linked.Linked.{Linked}
use Rattle.line_tables.specs.Table.{under, with_change, named, name_at, key_of, item_of, IsTable}
use Rattle.line_tables.specs.KeyCounts.{times}
use Rattle.line_tables.specs.Links.{references}
use Rattle.line_tables.specs.KeptRoutes.{names_under, with_names, all_with_names}
use Rattle.line_tables.proofs.Found.{found_by_key}
use Rattle.line_tables.proofs.References.{entry}
use Rattle.line_tables.proofs.RunPaths.{same_images}
use Rattle.line_tables.proofs.Under.{IsSwapped}
use Rattle.line_tables.proofs.Views.{is_named-map, map-with_item, map-without}
use Rattle.line_tables.proofs.Labels.{signal_name, route_name, kept_name}

-- what holds of each image holds at each item
pub All-unmap : {X Y : Type 0} (P : Y → Type 0) (f : X → Y) (xs : List X) → All P (map f xs) → All (λ x. P (f x)) xs
All-unmap P f xs all i d l = rw (← get_or-map f xs i d (f d) l) (all i (f d) (omega (arith, l, length-map xs f)))

module _ (signals : List (ℕ × Linked Signal)) where
  abbrev named_entry : ℕ × Linked KeptRoute → ℕ × Linked Route
  named_entry u = (u.0, with_names signals u.1)

  pub under_with_names : (routes : List (ℕ × Linked KeptRoute)) (k : ℕ) → under (all_with_names signals routes) k ≡ option_map (with_names signals) (under routes k)
  under_with_names [] k = refl
  under_with_names (u ∷ routes) k =
      elim (cases_Bool (u.0 == k)) [ inl e ↦ rw e refl | inr e ↦ rw e (under_with_names routes k) ]

  pub key_with_names : (routes : List (ℕ × Linked KeptRoute)) (n : List ℕ) → key_of route_name (all_with_names signals routes) n ≡ key_of kept_name routes n
  key_with_names [] n = refl
  key_with_names (u ∷ routes) n =
      elim (cases_Bool (is_same u.1.item.name n)) [ inl e ↦ rw e refl | inr e ↦ rw e (key_with_names routes n) ]

  pub named_with_names : (routes : List (ℕ × Linked KeptRoute)) (n : List ℕ) → is_named (named route_name) (all_with_names signals routes) n ≡ is_named (named kept_name) routes n
  named_with_names routes n = is_named-map named_entry (named route_name) routes n

  pub table_with_names : (routes : List (ℕ × Linked KeptRoute)) → IsTable kept_name routes → IsTable route_name (all_with_names signals routes)
  table_with_names routes table = record {
    rise = AllPairs-map named_entry (λ a b. IsBefore (named route_name a) (named route_name b)) routes table.rise;
    keys =
        All-map (λ e. under (all_with_names signals routes) e.0 ≡ Some e.1) named_entry routes
        (λ i d l. under_with_names routes (get_or routes i d).0 ∙ ap (option_map (with_names signals)) (table.keys i d l));
  }

  pub item_with_names : (routes : List (ℕ × Linked KeptRoute)) (n : List ℕ) → item_of route_name (all_with_names signals routes) n ≡ option_map (with_names signals) (item_of kept_name routes n)
  item_with_names [] n = refl
  item_with_names (u ∷ routes) n =
      elim (cases_Bool (is_same u.1.item.name n)) [ inl e ↦ rw e refl | inr e ↦ rw e (item_with_names routes n) ]

  pub references_with_names : (routes : List (ℕ × Linked KeptRoute)) (k : ℕ) → references (all_with_names signals routes) k ≡ references routes k
  references_with_names routes k =
      let count : ℕ × Linked Route → ℕ = λ u. times k u.1.refs in
      sym (sum-map count (map named_entry routes)) ∙ ap sum (map-map count named_entry routes) ∙ sum-map (λ u. count (named_entry u)) routes

  -- a route that is kept under the keys of its signals
  pub kept_as : (names : List (List ℕ)) (keys : List ℕ) → IsTable signal_name signals → map (key_of signal_name signals) names ≡ map Some keys → names_under signals keys ≡ names
  kept_as names keys table found =
      sym
      (sym (map_itself names)
      ∙ same_images (key_of signal_name signals) (λ n. n) (name_at signal_name (under signals)) names keys
      (λ n q e. let there = found_by_key signal_name signals n q table e in rw there.1.under (sym there.1.label)) found)

  -- ---- after an edit of the routes

  pub put_with_names : (routes : List (ℕ × Linked KeptRoute)) (key : ℕ) (e : Linked KeptRoute) → all_with_names signals (with_item (named kept_name) routes (key, e)) ≡ with_item (named route_name) (all_with_names signals routes) (key, with_names signals e)
  put_with_names routes key e = map-with_item named_entry (named route_name) routes (key, e)

  pub change_with_names : (routes : List (ℕ × Linked KeptRoute)) (key : ℕ) (e : Linked KeptRoute) → all_with_names signals (with_change routes key e) ≡ with_change (all_with_names signals routes) key (with_names signals e)
  change_with_names [] key e = refl
  change_with_names (u ∷ routes) key e =
      elim (cases_Bool (u.0 == key)) [ inl t ↦ rw (t, change_with_names routes key e) refl | inr t ↦ rw (t, change_with_names routes key e) refl ]

  pub drop_with_names : (routes : List (ℕ × Linked KeptRoute)) (n : List ℕ) → all_with_names signals (without (named kept_name) routes n) ≡ without (named route_name) (all_with_names signals routes) n
  drop_with_names routes n = map-without named_entry (named route_name) routes n

-- ---- after an edit of the signals

-- under a key stands now a signal of the same name
abbrev pub KeepsNameAt : List (ℕ × Linked Signal) → ℕ → Option (Linked Signal) → ℕ → Type 0
KeepsNameAt signals k now q = q ≡ k → option_map signal_name now ≡ option_map signal_name (under signals k)

pub same_with_names : (signals later : List (ℕ × Linked Signal)) (k : ℕ) (now : Option (Linked Signal)) (routes : List (ℕ × Linked KeptRoute)) → IsSwapped signals later k now → All (λ u. All (KeepsNameAt signals k now) u.1.refs) routes → all_with_names later routes ≡ all_with_names signals routes
same_with_names signals later k now routes swapped kept =
    map_same (named_entry later) (named_entry signals) routes
    (λ i d l.
    let u = get_or routes i d in
    ap (λ names. (u.0, entry (record { name = u.1.item.name; signals = names }) u.1.refs))
    (map_same (name_at signal_name (under later)) (name_at signal_name (under signals)) u.1.refs
    (λ n c m.
    let q = get_or u.1.refs n c in
    elim (cases_Bool (q == k)) [
      | inl e ↦
          let is = eqb-true q k e in
          rw (swapped q, e) (ap (λ o. unwrap_or o []) (kept i d l n c m is ∙ ap (λ k. option_map signal_name (under signals k)) (sym is)))
      | inr e ↦ rw (swapped q, e) refl
    ])))
