-- Which runs pass a signal, a block and a section, by keys and by names.
use Rattle.std.proofs.Common.{◌≡◌, ℕ, ◌<◌, ◌==◌, Bool, List, [], ◌∷◌, length, get_or, map, Option, Some, Result, Ok, Err, refl, sym, ap, ◌∙◌, subst, arith}
use Rattle.std.specs.Prelude.{All, IfOk, option_map, slice_get}
use Rattle.std.specs.declared.vec.Vec.{Vec}
use Rattle.std.specs.List.{list_any}
use Rattle.std.proofs.lemmas.List.Elements.{All-nil, All-cons}
use Rattle.std.proofs.lemmas.Option.{slice_get_within, get_or_from_slice_get}
use Rattle.std.proofs.lemmas.Simd.{map-map}
use Rattle.std.proofs.lemmas.List.{length-map, get_or-map}
use Rattle.rail_model.specs.declared.items.Block.{Block}
use Rattle.rail_model.specs.declared.items.Route.{Route}
use Rattle.rail_model.specs.declared.items.Run.{Run}
use Rattle.rail_model.specs.declared.items.Section.{Section}
use Rattle.rail_model.specs.Name.{is_same}
use Rattle.rail_model.specs.Tables.{no_route, no_section, section_at, number_of, block_number, signal_named, route_named}
use Rattle.rail_model.proofs.Lists.{map_same}
use Rattle.line_tables.specs.declared.linked.Linked.{Linked}
use Rattle.line_tables.specs.Table.{under, key_of, named, IsTable, AreNumbered}
use Rattle.line_tables.specs.KeySet.{holds}
use Rattle.line_tables.specs.Links.{lists_key, lead_to, block_of}
use Rattle.line_tables.specs.RouteSets.{has, reaches}
use Rattle.line_tables.specs.Inside.{WholeTables, tables_of, names_of_run, names_of_section, IsJoined}
use Rattle.line_tables.specs.Passing.{passes_signal, passes_block, passes_section, IsNumberAt}
use Rattle.line_tables.proofs.Found.{found_by_key, list_any-map}
use Rattle.line_tables.proofs.References.{named_listed}
use Rattle.line_tables.proofs.Meets.{some_key, only_key, map_keyed, block_keyed}
use Rattle.line_tables.proofs.Numbers.{number_at_key}
use Rattle.line_tables.proofs.RunPaths.{linked_under, same_images, read_entry, all_at}
use Rattle.line_tables.proofs.Views.{item_named, number_of-map}
use Rattle.line_tables.proofs.Labels.{block_name, signal_name, route_name}

-- what holds of the key of each name holds of each key
keys_hold : (P : ℕ → Type 0) (find : List ℕ → Option ℕ) (ns : List (List ℕ)) (ks : List ℕ) → ((n : List ℕ) (k : ℕ) → find n ≡ Some k → P k) → map find ns ≡ map Some ks → All P ks
keys_hold P find [] [] each e = All-nil P
keys_hold P find [] (k ∷ ks) each e = absurd (cc)
keys_hold P find (n ∷ ns) [] each e = absurd (cc)
keys_hold P find (n ∷ ns) (k ∷ ks) each e =
    let first : find n ≡ Some k = cc in
    let rest : map find ns ≡ map Some ks = cc in
    All-cons P k ks (each n k first) (keys_hold P find ns ks each rest)

-- names pass a test as often as their keys do
any_keyed : (find : List ℕ → Option ℕ) (p : List ℕ → Bool) (q : ℕ → Bool) (ns : List (List ℕ)) (ks : List ℕ) → ((n : List ℕ) (k : ℕ) → find n ≡ Some k → q k ≡ p n) → map find ns ≡ map Some ks → list_any q ks ≡ list_any p ns
any_keyed find p q [] [] each e = refl
any_keyed find p q [] (k ∷ ks) each e = absurd (cc)
any_keyed find p q (n ∷ ns) [] each e = absurd (cc)
any_keyed find p q (n ∷ ns) (k ∷ ks) each e =
    let first : find n ≡ Some k = cc in
    let rest : map find ns ≡ map Some ks = cc in
    rw (each n k first, any_keyed find p q ns ks each rest) refl

module _ (t : WholeTables) (j : IsJoined t) where
  -- a run's one reference is its route's key
  abbrev IsLinkedRun : Linked Run → Type 0
  IsLinkedRun e = map (key_of route_name t.routes) (names_of_run e.item) ≡ map Some e.refs

  -- each run has it
  pub one_route : All (λ u. 0 < length u.1.refs) t.runs
  one_route i d l = some_key (key_of route_name t.routes (get_or t.runs i d).1.item.route) (get_or t.runs i d).1.refs (j.runs i d l)

  module _ (routes : IsTable route_name t.routes) where
    -- the route of a run, under its key
    record IsRouteOf (run : Linked Run) (e : Linked Route) : Type 0 where
      stands : under t.routes (get_or run.refs 0 0) ≡ Some e
      named : route_named (tables_of t) run.item.route ≡ e.item
      linked : map (key_of signal_name t.signals) e.item.signals ≡ map Some e.refs

    route_of : (run : Linked Run) → IsLinkedRun run → (e : Linked Route) × IsRouteOf run e
    route_of run linked =
        let k = get_or run.refs 0 0 in
        let key = only_key (key_of route_name t.routes run.item.route) run.refs linked in
        let found = found_by_key route_name t.routes run.item.route k routes key in (
          found.0,
          record {
            stands = found.1.under;
            named = item_named (λ (e : Linked Route). e.item) (λ x. x.name) t.routes run.item.route k found.0 no_route routes key found.1.under;
            linked = linked_under t j k found.0 found.1.under;
          },
        )

    module _ (signals : IsTable signal_name t.signals) where
      -- a run passes a signal where its route's key is in the signal's set
      by_signal : (name : List ℕ) (key : ℕ) → key_of signal_name t.signals name ≡ Some key → (run : Linked Run) → IsLinkedRun run
          → has t.route_sets.of_signals key (get_or run.refs 0 0) ≡ passes_signal (tables_of t) name run.item
      by_signal name key here run linked =
          let e = route_of run linked in
          let listed : reaches (λ q. q) t.routes key (get_or run.refs 0 0) ≡ lists_key e.0.refs key = rw e.1.stands refl in
          j.signal_routes key (get_or run.refs 0 0) ∙ listed
          ∙ sym (named_listed signal_name t.signals name key e.0.item.signals e.0.refs signals here e.1.linked)
          ∙ ap (λ (x : Route). list_any (λ m. is_same m name) x.signals) (sym e.1.named)

      pub signals_passed : {E Z : Type 0} (name : List ℕ) (key : ℕ) (all : Result (Vec Bool Z) E) → key_of signal_name t.signals name ≡ Some key
          → IfOk all (λ v. v.items ≡ map (λ u. holds (get_or t.route_sets.of_signals key []) (get_or u.1.refs 0 0)) t.runs)
          → IfOk all (λ v. v.items ≡ map (passes_signal (tables_of t) name) (tables_of t).runs)
      signals_passed name key (Err e) here is = tt
      signals_passed name key (Ok all) here is =
          is
          ∙ map_same (λ u. holds (get_or t.route_sets.of_signals key []) (get_or u.1.refs 0 0)) (λ u. passes_signal (tables_of t) name u.1.item) t.runs
          (λ i d l. by_signal name key here (get_or t.runs i d).1 (j.runs i d l))
          ∙ sym (map-map (passes_signal (tables_of t) name) (λ (u : ℕ × Linked Run). u.1.item) t.runs)

      module _ (blocks : IsTable block_name t.blocks) where
        -- and a block where it is in the block's set
        by_block : (name : List ℕ) (key : ℕ) → key_of block_name t.blocks name ≡ Some key → (run : Linked Run) → IsLinkedRun run
            → has t.route_sets.of_blocks key (get_or run.refs 0 0) ≡ passes_block (tables_of t) name run.item
        by_block name key here run linked =
            let e = route_of run linked in
            let block : List ℕ → List ℕ = λ m. (signal_named (tables_of t) m).block in
            let keyed = map_keyed (key_of signal_name t.signals) (key_of block_name t.blocks) block (block_of t.signals) e.0.item.signals e.0.refs (block_keyed t j signals blocks) e.1.linked in
            let led : reaches (block_of t.signals) t.routes key (get_or run.refs 0 0) ≡ lead_to (block_of t.signals) e.0.refs key = rw e.1.stands refl in
            j.block_routes key (get_or run.refs 0 0) ∙ led
            ∙ sym (list_any-map (block_of t.signals) (λ q. q == key) e.0.refs)
            ∙ sym (named_listed block_name t.blocks name key (map block e.0.item.signals) (map (block_of t.signals) e.0.refs) blocks here keyed)
            ∙ list_any-map block (λ m. is_same m name) e.0.item.signals
            ∙ ap (λ (x : Route). list_any (λ m. is_same (block m) name) x.signals) (sym e.1.named)

        pub blocks_passed : {E Z : Type 0} (name : List ℕ) (key : ℕ) (all : Result (Vec Bool Z) E) → key_of block_name t.blocks name ≡ Some key
            → IfOk all (λ v. v.items ≡ map (λ u. holds (get_or t.route_sets.of_blocks key []) (get_or u.1.refs 0 0)) t.runs)
            → IfOk all (λ v. v.items ≡ map (passes_block (tables_of t) name) (tables_of t).runs)
        blocks_passed name key (Err e) here is = tt
        blocks_passed name key (Ok all) here is =
            is
            ∙ map_same (λ u. holds (get_or t.route_sets.of_blocks key []) (get_or u.1.refs 0 0)) (λ u. passes_block (tables_of t) name u.1.item) t.runs
            (λ i d l. by_block name key here (get_or t.runs i d).1 (j.runs i d l))
            ∙ sym (map-map (passes_block (tables_of t) name) (λ (u : ℕ × Linked Run). u.1.item) t.runs)

        -- a run passes a section where its route's key is in the set of one of the section's blocks
        pub section_passed : (run : Linked Run) (section : Linked Section) → IsLinkedRun run
            → map (key_of block_name t.blocks) section.item.blocks ≡ map Some section.refs
            → list_any (λ b. has t.route_sets.of_blocks b (get_or run.refs 0 0)) section.refs ≡ passes_section (tables_of t) section.item run.item
        section_passed run section linked blocks_linked =
            any_keyed (key_of block_name t.blocks) (λ name. passes_block (tables_of t) name run.item)
            (λ b. has t.route_sets.of_blocks b (get_or run.refs 0 0)) section.item.blocks section.refs
            (λ n k here. by_block n k here run linked) blocks_linked

-- ---- a section by its number

module _ (t : WholeTables) (j : IsJoined t) (n : ℕ) (e : Linked Section) (here : option_map (λ e. e.1) (slice_get t.sections n) ≡ Some e) where
  pub section_is : section_at (tables_of t) n ≡ e.item
  section_is =
      let u = read_entry t.sections n e here in
      get_or-map (λ (e : ℕ × Linked Section). e.1.item) t.sections n u.0 no_section u.3 ∙ ap (λ (u : ℕ × Linked Section). u.1.item) u.1 ∙ ap (λ (e : Linked Section). e.item) u.2

  pub section_linked : map (key_of block_name t.blocks) e.item.blocks ≡ map Some e.refs
  section_linked =
      let one = all_at (λ u. map (key_of block_name t.blocks) (names_of_section u.1.item) ≡ map Some u.1.refs) t.sections n e here j.sections in
      subst (λ (e : Linked Section). map (key_of block_name t.blocks) e.item.blocks ≡ map Some e.refs) one.1 one.2

-- ---- the numbers of a section's blocks

module _ (t : WholeTables) (j : IsJoined t) (numbers : List ℕ) (numbered : AreNumbered (length t.blocks) t.blocks numbers) where
  number_at : (n : List ℕ) (k : ℕ) → key_of block_name t.blocks n ≡ Some k → block_number (tables_of t) n ≡ get_or numbers k 0
  number_at n k key =
      let at = number_at_key block_name t.blocks numbers n k numbered key in
      number_of-map (λ (e : ℕ × Block). e.1) block_name t.blocks n
      ∙ sym (get_or_from_slice_get numbers k (number_of (named block_name) t.blocks n) 0 at.0)

  fits_at : (n : List ℕ) (k : ℕ) → key_of block_name t.blocks n ≡ Some k → IsNumberAt numbers k
  fits_at n k key =
      let number = number_of (named block_name) t.blocks n in
      let at = number_at_key block_name t.blocks numbers n k numbered key in
      let is = get_or_from_slice_get numbers k number 0 at.0 in
      let few = j.sound.blocks.most in
      let long = length-map t.blocks (λ (e : ℕ × Block). e.1) in
      let below = at.1 in
      record { within = slice_get_within numbers k number at.0; fits = omega (arith, is, few, long, below) }

  pub section_numbered : (section : Linked Section) → map (key_of block_name t.blocks) section.item.blocks ≡ map Some section.refs
      → All (IsNumberAt numbers) section.refs
  section_numbered section linked =
      keys_hold (IsNumberAt numbers) (key_of block_name t.blocks) section.item.blocks section.refs fits_at linked

  pub section_numbers : (section : Linked Section) → map (key_of block_name t.blocks) section.item.blocks ≡ map Some section.refs
      → map (λ k. get_or numbers k 0) section.refs ≡ map (block_number (tables_of t)) section.item.blocks
  section_numbers section linked =
      sym (same_images (key_of block_name t.blocks) (block_number (tables_of t)) (λ k. get_or numbers k 0) section.item.blocks section.refs number_at linked)

  pub numbers_read : {E Z : Type 0} (section : Linked Section) → map (key_of block_name t.blocks) section.item.blocks ≡ map Some section.refs
      → (found : Result (Vec ℕ Z) E) → IfOk found (λ v. v.items ≡ map (λ k. get_or numbers k 0) section.refs)
      → IfOk found (λ v. v.items ≡ map (block_number (tables_of t)) section.item.blocks)
  numbers_read section linked (Ok found) is = is ∙ section_numbers section linked
  numbers_read section linked (Err e) is = tt
