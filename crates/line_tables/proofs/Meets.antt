-- Which blocks the signals of a route have, by names and by keys.
use Rattle.std.proofs.Common.{◌≡◌, ℕ, ◌<◌, ◌==◌, Bool, true, false, List, [], ◌∷◌, length, get_or, map, Option, Some, refl, sym, ap, ◌∙◌, subst, inl, inr, arith}
use Rattle.std.specs.Prelude.{◌&&◌, All, is_some}
use Rattle.std.specs.List.{list_any, find}
use Rattle.std.proofs.lemmas.Bool.{cases_Bool, both_ways, eqb-true, eq-eqb, false_from_ne_true, not-true}
use Rattle.std.proofs.lemmas.List.{get_or-map, length-map}
use Rattle.std.proofs.lemmas.List.Elements.{All-nil, All-cons}
use Rattle.std.proofs.lemmas.List.Folds.{list_any_none}
use Rattle.rail_model.specs.declared.items.Block.{Block}
use Rattle.rail_model.specs.declared.items.Signal.{Signal}
use Rattle.rail_model.specs.declared.items.Route.{Route}
use Rattle.rail_model.specs.declared.items.Item.TheVariants as item
use Rattle.rail_model.specs.declared.tables.Tables.{Tables}
use Rattle.rail_model.specs.Name.{is_same, has_repeat}
use Rattle.rail_model.specs.Tables.{no_signal, signal_named}
use Rattle.rail_model.specs.Rules.{is_named, lists, repeats_block, makes_repeat, with_changed, Stands}
use Rattle.rail_model.proofs.NameOrder.{same_name, is_same-from, is_same-sym}
use Rattle.rail_model.proofs.Members.{first-with_changed, kept_by_change}
use Rattle.line_tables.specs.declared.linked.Linked.{Linked}
use Rattle.line_tables.specs.Table.{under, key_of, IsTable}
use Rattle.line_tables.specs.Links.{lists_key, repeats_key, block_of, meets, IsKey}
use Rattle.line_tables.specs.Inside.{WholeTables, items_of, tables_of, names_of_signal, IsJoined}
use Rattle.line_tables.proofs.Filed.{some_from_map}
use Rattle.line_tables.proofs.Entries.{is_some-key_of}
use Rattle.line_tables.proofs.Found.{find_some, found_by_key, name_of_key, list_any-map}
use Rattle.line_tables.proofs.References.{named_listed, list_any_same}
use Rattle.rail_model.proofs.Lists.{map_same}
use Rattle.line_tables.proofs.Views.{is_named-map, item_named}
use Rattle.line_tables.proofs.Repeats.{moved, repeats_moved}
use Rattle.line_tables.proofs.Labels.{block_name, signal_name}

-- ---- lists of names and of their keys

-- a look-up of the images of names gives the images of their keys
pub map_keyed : (find target : List ℕ → Option ℕ) (g : List ℕ → List ℕ) (f : ℕ → ℕ) (ns : List (List ℕ)) (ks : List ℕ) → ((n : List ℕ) (q : ℕ) → find n ≡ Some q → target (g n) ≡ Some (f q)) → map find ns ≡ map Some ks → map target (map g ns) ≡ map Some (map f ks)
map_keyed find target g f [] [] keyed e = refl
map_keyed find target g f [] (k ∷ ks) keyed e = absurd (cc)
map_keyed find target g f (n ∷ ns) [] keyed e = absurd (cc)
map_keyed find target g f (n ∷ ns) (k ∷ ks) keyed e =
    let first : find n ≡ Some k = cc in
    let rest : map find ns ≡ map Some ks = cc in
    rw (keyed n k first, map_keyed find target g f ns ks keyed rest) refl

any_flipped : (n : List ℕ) (ns : List (List ℕ)) → list_any (is_same n) ns ≡ list_any (λ m. is_same m n) ns
any_flipped n ns = list_any_same (is_same n) (λ m. is_same m n) ns (λ i d l. is_same-sym n (get_or ns i d))

module _ {B : Type 0} (name : B → List ℕ) (used : List (ℕ × B)) (table : IsTable name used) where
  -- a name stands twice where its key does
  pub has_repeat_keyed : (ns : List (List ℕ)) (ks : List ℕ) → map (key_of name used) ns ≡ map Some ks → has_repeat ns ≡ repeats_key ks
  has_repeat_keyed [] [] e = refl
  has_repeat_keyed [] (k ∷ ks) e = absurd (cc)
  has_repeat_keyed (n ∷ ns) [] e = absurd (cc)
  has_repeat_keyed (n ∷ ns) (k ∷ ks) e =
      let first : key_of name used n ≡ Some k = cc in
      let rest : map (key_of name used) ns ≡ map Some ks = cc in
      rw (any_flipped n ns, named_listed name used n k ns ks table first rest, has_repeat_keyed ns ks rest) refl

  pub all_keys : (ns : List (List ℕ)) (ks : List ℕ) → map (key_of name used) ns ≡ map Some ks → All (IsKey used) ks
  all_keys [] [] e = All-nil (IsKey used)
  all_keys [] (k ∷ ks) e = absurd (cc)
  all_keys (n ∷ ns) [] e = absurd (cc)
  all_keys (n ∷ ns) (k ∷ ks) e =
      let first : key_of name used n ≡ Some k = cc in
      let rest : map (key_of name used) ns ≡ map Some ks = cc in
      let here = found_by_key name used n k table first in
      All-cons (IsKey used) k ks (rw here.1.under refl) (all_keys ns ks rest)

pub under_passes : {X : Type 0} (P : ℕ × X → Type 0) (items : List (ℕ × X)) (k : ℕ) (x : X) → under items k ≡ Some x → All P items → (y : ℕ × X) × (y.1 ≡ x) × P y
under_passes P items k x e all =
    let y = some_from_map (λ (e : ℕ × _). e.1) (find (λ e. e.0 == k) items) x e in
    (y.0, y.2, (find_some (λ e. e.0 == k) items y.0 y.1).1 P all)

pub some_key : (o : Option ℕ) (ks : List ℕ) → o ∷ [] ≡ map Some ks → 0 < length ks
some_key o [] e = absurd (cc)
some_key o (k ∷ ks) e = omega arith

pub only_key : (o : Option ℕ) (ks : List ℕ) → o ∷ [] ≡ map Some ks → o ≡ Some (get_or ks 0 0)
only_key o [] e = absurd (cc)
only_key o (k ∷ ks) e = cc

All-unmap : {X Y : Type 0} (P : Y → Type 0) (f : X → Y) (xs : List X) → All P (map f xs) → All (λ x. P (f x)) xs
All-unmap P f xs all i d l = subst P (get_or-map f xs i d (f d) l) (all i (f d) (omega (arith, length-map xs f)))

module _ (t : WholeTables) (j : IsJoined t) (signals : IsTable (λ (e : Linked Signal). e.item.name) t.signals) (blocks : IsTable (λ (b : Block). b.name) t.blocks) where
  -- the block of the signal of a name stands under the key that the signal's key gives
  pub block_keyed : (n : List ℕ) (q : ℕ) → key_of signal_name t.signals n ≡ Some q → key_of block_name t.blocks (signal_named (tables_of t) n).block ≡ Some (block_of t.signals q)
  block_keyed n q key =
      let found = found_by_key signal_name t.signals n q signals key in
      let e = found.0 in
      let named = item_named (λ (e : Linked Signal). e.item) (λ x. x.name) t.signals n q e no_signal signals key found.1.under in
      let linked = under_passes (λ u. map (key_of block_name t.blocks) (names_of_signal u.1.item) ≡ map Some u.1.refs) t.signals q e found.1.under j.signals in
      let here : key_of block_name t.blocks e.item.block ∷ [] ≡ map Some e.refs = subst (λ (e : Linked Signal). key_of block_name t.blocks e.item.block ∷ [] ≡ map Some e.refs) linked.1 linked.2 in
      rw (named, found.1.under) (only_key (key_of block_name t.blocks e.item.block) e.refs here)

  -- a route has two signals of one block where the keys of their blocks repeat
  pub repeats_by_key : (r : Route) (refs : List ℕ) → map (key_of signal_name t.signals) r.signals ≡ map Some refs → repeats_block (tables_of t) r ≡ repeats_key (map (block_of t.signals) refs)
  repeats_by_key r refs e =
      has_repeat_keyed block_name t.blocks blocks (map (λ n. (signal_named (tables_of t) n).block) r.signals) (map (block_of t.signals) refs)
      (map_keyed (key_of signal_name t.signals) (key_of block_name t.blocks) (λ n. (signal_named (tables_of t) n).block) (block_of t.signals) r.signals refs block_keyed e)

  all_stand : All (λ u. Stands (tables_of t) (item.Route u.1.item)) t.routes
  all_stand = All-unmap (λ r. Stands (tables_of t) (item.Route r)) (λ (u : ℕ × Linked Route). u.1.item) t.routes j.sound.routes.each

  -- no route has two signals of one block
  pub none_repeats : All (λ u. repeats_key (map (block_of t.signals) u.1.refs) ≡ false) t.routes
  none_repeats i d l =
      let u = get_or t.routes i d in
      sym (repeats_by_key u.1.item u.1.refs (j.routes i d l)) ∙ not-true (repeats_block (tables_of t) u.1.item) (all_stand i d l).no_repeat

  module _ (s : Signal) (key b : ℕ) (here : key_of signal_name t.signals s.name ≡ Some key) (known : key_of block_name t.blocks s.block ≡ Some b) where
    -- the tables with the changed signal
    abbrev changed : Tables
    changed = record (tables_of t) { signals = with_changed (λ x. x.name) (items_of t.signals) s }

    abbrev images : ℕ → ℕ
    images = block_of t.signals

    is_there : (n : List ℕ) (q : ℕ) → key_of signal_name t.signals n ≡ Some q → is_named (λ x. x.name) (items_of t.signals) n ≡ true
    is_there n q e =
        is_named-map (λ (e : ℕ × Linked Signal). e.1.item) (λ x. x.name) t.signals n
        ∙ sym (is_some-key_of signal_name t.signals n) ∙ ap is_some e

    moved_keyed : (n : List ℕ) (q : ℕ) → key_of signal_name t.signals n ≡ Some q → key_of block_name t.blocks (signal_named changed n).block ≡ Some (moved images key b q)
    moved_keyed n q e =
        elim (cases_Bool (is_same n s.name)) [
          | inl same ↦
              let name = same_name n s.name same in
              let both : Some q ≡ Some key = sym e ∙ ap (key_of signal_name t.signals) name ∙ here in
              let keys : q ≡ key = cc in
              let first = first-with_changed (λ (x : Signal). x.name) s (items_of t.signals) no_signal (is_there s.name key here) in
              let named : signal_named changed n ≡ s = ap (signal_named changed) name ∙ first in
              rw (named, eq-eqb q key keys) known
          | inr apart ↦
              let keys : (q == key) ≡ false =
              false_from_ne_true (q == key)
              (λ same. both_ways (is_same n s.name) apart (is_same-from n s.name (name_of_key signal_name t.signals n s.name key signals (e ∙ ap Some (eqb-true q key same)) here))) in
              let kept : signal_named changed n ≡ signal_named (tables_of t) n = (kept_by_change (λ (x : Signal). x.name) s (items_of t.signals)).first n no_signal apart (is_there n q e) in
              rw (kept, keys) (block_keyed n q e)
        ]

    route_moved : (r : Route) (refs : List ℕ) → map (key_of signal_name t.signals) r.signals ≡ map Some refs → repeats_block changed r ≡ repeats_key (map (moved images key b) refs)
    route_moved r refs e =
        has_repeat_keyed block_name t.blocks blocks (map (λ n. (signal_named changed n).block) r.signals) (map (moved images key b) refs)
        (map_keyed (key_of signal_name t.signals) (key_of block_name t.blocks) (λ n. (signal_named changed n).block) (moved images key b) r.signals refs moved_keyed e)

    -- where the signal's block stays no route's blocks move
    stays_put : images key ≡ b → (refs : List ℕ) → map (moved images key b) refs ≡ map images refs
    stays_put stays refs =
        map_same (moved images key b) images refs
        (λ i d l.
        let q = get_or refs i d in
        elim (cases_Bool (q == key)) [ inl e ↦ rw e (sym stays ∙ ap images (sym (eqb-true q key e))) | inr e ↦ rw e refl ])

    both_ands : (a c : Bool) → (a && (a && c)) ≡ (a && c)
    both_ands true c = refl
    both_ands false c = refl

    and_false : (a : Bool) → (a && false) ≡ false
    and_false true = refl
    and_false false = refl

    -- the test on one route
    abbrev WouldRepeat : ℕ × Linked Route → Bool
    WouldRepeat u = lists u.1.item.signals s.name && repeats_block changed u.1.item

    one_moves : (u : ℕ × Linked Route) → map (key_of signal_name t.signals) u.1.item.signals ≡ map Some u.1.refs → Stands (tables_of t) (item.Route u.1.item) → (images key == b) ≡ false → WouldRepeat u ≡ meets t.signals key b u
    one_moves u linked stands moves =
        let r = u.1.item in
        let no_repeat = sym (repeats_by_key r u.1.refs linked) ∙ not-true (repeats_block (tables_of t) r) stands.no_repeat in
        rw (named_listed signal_name t.signals s.name key r.signals u.1.refs signals here linked, route_moved r u.1.refs linked, repeats_moved images key b u.1.refs moves no_repeat)
        (both_ands (lists_key u.1.refs key) (list_any (λ q. images q == b) u.1.refs))

    one_stays : (u : ℕ × Linked Route) → map (key_of signal_name t.signals) u.1.item.signals ≡ map Some u.1.refs → Stands (tables_of t) (item.Route u.1.item) → images key ≡ b → WouldRepeat u ≡ false
    one_stays u linked stands stays =
        let r = u.1.item in
        let no_repeat = sym (repeats_by_key r u.1.refs linked) ∙ not-true (repeats_block (tables_of t) r) stands.no_repeat in
        rw (route_moved r u.1.refs linked, stays_put stays u.1.refs, no_repeat) (and_false (lists r.signals s.name))

    by_entries : makes_repeat (tables_of t) (item.Signal s) ≡ list_any WouldRepeat t.routes
    by_entries = list_any-map (λ (u : ℕ × Linked Route). u.1.item) (λ r. lists r.signals s.name && repeats_block changed r) t.routes

    pub makes_repeat_where_moved : (images key == b) ≡ false → makes_repeat (tables_of t) (item.Signal s) ≡ list_any (meets t.signals key b) t.routes
    makes_repeat_where_moved moves =
        by_entries ∙ list_any_same WouldRepeat (meets t.signals key b) t.routes (λ i d l. one_moves (get_or t.routes i d) (j.routes i d l) (all_stand i d l) moves)

    pub makes_none_where_same : images key ≡ b → makes_repeat (tables_of t) (item.Signal s) ≡ false
    makes_none_where_same stays =
        by_entries ∙ list_any_none WouldRepeat t.routes (λ i d l. one_stays (get_or t.routes i d) (j.routes i d l) (all_stand i d l) stays)
