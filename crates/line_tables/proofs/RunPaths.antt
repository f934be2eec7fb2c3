-- The path of a run by keys is its path by names.
use Rattle.std.proofs.Common.{◌≡◌, ℕ, ◌+◌, ◌<◌, List, [], ◌∷◌, ◌++◌, length, take, get_or, map, Option, Some, Result, Ok, Err, refl, sym, ap, ◌∙◌, subst, arith}
use Rattle.std.specs.Prelude.{All, IfOk, option_map, slice_get}
use Rattle.std.proofs.lemmas.List.{get_or-map, length-map, map_more}
use Rattle.std.proofs.lemmas.Option.{get_or_from_slice_get, slice_get_within}
use Rattle.rail_model.specs.declared.items.Signal.{Signal}
use Rattle.rail_model.specs.declared.items.Route.{Route}
use Rattle.rail_model.specs.declared.items.Run.{Run}
use Rattle.rail_model.specs.declared.items.Item.TheVariants as item
use Rattle.rail_model.specs.declared.path.Hop.{Hop}
use Rattle.rail_model.specs.declared.path.Path.{Path}
use Rattle.rail_model.specs.declared.tables.Tables.{Tables}
use Rattle.rail_model.specs.Blocking.{Fits}
use Rattle.rail_model.specs.Tables.{no_signal, no_route, route_named, path_in, no_run, run_at}
use Rattle.rail_model.specs.Rules.{IsSound, Stands}
use Rattle.line_tables.specs.declared.linked.Linked.{Linked}
use Rattle.line_tables.specs.Table.{under, key_of, IsTable}
use Rattle.line_tables.specs.Inside.{WholeTables, tables_of, names_of_route, names_of_run, IsJoined}
use Rattle.line_tables.specs.Hops.{hop_of, with_legs, path_over}
use Rattle.line_tables.proofs.Filed.{some_from_map}
use Rattle.line_tables.proofs.Found.{found_by_key}
use Rattle.line_tables.proofs.Views.{item_named}
use Rattle.line_tables.proofs.Meets.{under_passes, only_key}
use Rattle.rail_model.proofs.Paths.{path_fits, route_stands, hops_numbered}
use Rattle.line_tables.proofs.TimedHops.{untimed_hop, route_hops, looked_up_first}
use Rattle.line_tables.proofs.Labels.{signal_name, route_name}

-- what names and their keys give alike
pub same_images : {Y : Type 0} (find : List ℕ → Option ℕ) (g : List ℕ → Y) (f : ℕ → Y) (ns : List (List ℕ)) (ks : List ℕ) → ((n : List ℕ) (q : ℕ) → find n ≡ Some q → g n ≡ f q) → map find ns ≡ map Some ks → map g ns ≡ map f ks
same_images find g f [] [] same e = refl
same_images find g f [] (k ∷ ks) same e = absurd (cc)
same_images find g f (n ∷ ns) [] same e = absurd (cc)
same_images find g f (n ∷ ns) (k ∷ ks) same e =
    let first : find n ≡ Some k = cc in
    let rest : map find ns ≡ map Some ks = cc in
    rw (same n k first, same_images find g f ns ks same rest) refl

-- the entry of a number
pub read_entry : {X : Type 0} (items : List (ℕ × X)) (n : ℕ) (x : X) → option_map (λ e. e.1) (slice_get items n) ≡ Some x → (e : ℕ × X) × (get_or items n e ≡ e) × (e.1 ≡ x) × (n < length items)
read_entry items n x h =
    let e = some_from_map (λ (e : ℕ × _). e.1) (slice_get items n) x h in
    (e.0, get_or_from_slice_get items n e.0 e.0 e.1, e.2, slice_get_within items n e.0 e.1)

-- the images of one entry more
pub images_more : {X Y : Type 0} (f : X → Y) (items : List (ℕ × X)) (n : ℕ) (x : X) (so_far : List Y) (y : Y) → option_map (λ e. e.1) (slice_get items n) ≡ Some x → so_far ≡ map (λ e. f e.1) (take n items) → y ≡ f x → so_far ++ y ∷ [] ≡ map (λ e. f e.1) (take (n + 1) items)
images_more f items n x so_far y here right same =
    let e = read_entry items n x here in
    rw (right, same, map_more (λ (e : ℕ × _). f e.1) items n e.0 e.3, e.1, e.2) refl

pub all_at : {X : Type 0} (P : ℕ × X → Type 0) (items : List (ℕ × X)) (n : ℕ) (x : X) → option_map (λ e. e.1) (slice_get items n) ≡ Some x → All P items → (e : ℕ × X) × (e.1 ≡ x) × P e
all_at P items n x h all =
    let e = read_entry items n x h in
    (e.0, e.2, subst P e.1 (all n e.0 e.3))

-- ---- the path over the hops of a run's route

module _ (tables : Tables) (run : Run) (hops : List Hop) (right : hops ≡ route_hops tables (route_named tables run.route)) where
  pub path_is : path_over run hops ≡ path_in tables run
  path_is =
      ap (λ (hops : List Hop). record (path_in tables run) { hops = hops })
      (ap (λ h. with_legs h run.legs) right ∙ looked_up_first tables (route_named tables run.route).signals run.legs)

module _ (tables : Tables) (sound : IsSound tables) (run : Run) (stands : Stands tables (item.Run run)) where
  pub numbered : All (λ (h : Hop). h.block < length tables.blocks) (path_in tables run).hops
  numbered =
      let route = route_stands tables sound run.route stands.known in
      hops_numbered tables sound (route_named tables run.route).signals run.legs route.known

  module _ (hops : List Hop) (right : hops ≡ route_hops tables (route_named tables run.route)) where
    pub same_path : {E : Type 0} (r : Result Path E) → IfOk r (λ path. path ≡ path_over run hops) → IfOk r (λ path. path ≡ path_in tables run)
    same_path (Ok path) h = h ∙ path_is tables run hops right
    same_path (Err e) h = tt

    pub fitting_path : {E : Type 0} (r : Result Path E) → IfOk r (λ path. path ≡ path_over run hops) → IfOk r Fits
    fitting_path (Ok path) h = subst Fits (sym (h ∙ path_is tables run hops right)) (path_fits tables sound run stands)
    fitting_path (Err e) h = tt

    pub numbered_path : {E : Type 0} (r : Result Path E) → IfOk r (λ path. path ≡ path_over run hops) → IfOk r (λ path. All (λ (h : Hop). h.block < length tables.blocks) path.hops)
    numbered_path (Ok path) h =
        let AreThere : Path → Type 0 = λ path. All (λ (h : Hop). h.block < length tables.blocks) path.hops in
        subst AreThere (sym (h ∙ path_is tables run hops right)) numbered
    numbered_path (Err e) h = tt

-- ---- by keys

module _ (t : WholeTables) (j : IsJoined t) where
  pub run_is : (n : ℕ) (e : Linked Run) → option_map (λ e. e.1) (slice_get t.runs n) ≡ Some e → run_at (tables_of t) n ≡ e.item
  run_is n e h =
      let u = read_entry t.runs n e h in
      get_or-map (λ (e : ℕ × Linked Run). e.1.item) t.runs n u.0 no_run u.3 ∙ ap (λ (u : ℕ × Linked Run). u.1.item) u.1 ∙ ap (λ (e : Linked Run). e.item) u.2

  pub run_stands : (n : ℕ) (e : Linked Run) → option_map (λ e. e.1) (slice_get t.runs n) ≡ Some e → Stands (tables_of t) (item.Run e.item)
  run_stands n e h =
      let u = read_entry t.runs n e h in
      subst (λ (r : Run). Stands (tables_of t) (item.Run r)) (run_is n e h) (j.sound.runs.each n no_run (let l : n < length t.runs = u.3 in omega (arith, length-map t.runs (λ (e : ℕ × Linked Run). e.1.item))))

  -- a run refers to its route alone
  pub route_key : (n : ℕ) (e : Linked Run) → option_map (λ e. e.1) (slice_get t.runs n) ≡ Some e → key_of route_name t.routes e.item.route ∷ [] ≡ map Some e.refs
  route_key n e h =
      let one = all_at (λ u. map (key_of route_name t.routes) (names_of_run u.1.item) ≡ map Some u.1.refs) t.runs n e h j.runs in
      subst (λ (e : Linked Run). key_of route_name t.routes e.item.route ∷ [] ≡ map Some e.refs) one.1 one.2

  -- the route under that key is the one that the run names
  pub route_is : (n : ℕ) (e : Linked Run) (r : Linked Route) → IsTable route_name t.routes → option_map (λ e. e.1) (slice_get t.runs n) ≡ Some e → under t.routes (get_or e.refs 0 0) ≡ Some r → route_named (tables_of t) e.item.route ≡ r.item
  route_is n e r table h here =
      item_named (λ (e : Linked Route). e.item) (λ x. x.name) t.routes e.item.route (get_or e.refs 0 0) r no_route table (only_key (key_of route_name t.routes e.item.route) e.refs (route_key n e h)) here

  -- the hops beyond the signals of a route
  pub hops_are : (r : Linked Route) → IsTable signal_name t.signals → map (key_of signal_name t.signals) r.item.signals ≡ map Some r.refs → map (hop_of t.blocks t.signals) r.refs ≡ route_hops (tables_of t) r.item
  hops_are r table linked =
      sym (same_images (key_of signal_name t.signals) (untimed_hop (tables_of t)) (hop_of t.blocks t.signals) r.item.signals r.refs
      (λ n q e.
      let found = found_by_key signal_name t.signals n q table e in
      let named = item_named (λ (e : Linked Signal). e.item) (λ x. x.name) t.signals n q found.0 no_signal table e found.1.under in
      rw (named, found.1.under) refl)
      linked)

  pub linked_under : (k : ℕ) (r : Linked Route) → under t.routes k ≡ Some r → map (key_of signal_name t.signals) r.item.signals ≡ map Some r.refs
  linked_under k r here =
      let one = under_passes (λ u. map (key_of signal_name t.signals) (names_of_route u.1.item) ≡ map Some u.1.refs) t.routes k r here j.routes in
      subst (λ (r : Linked Route). map (key_of signal_name t.signals) r.item.signals ≡ map Some r.refs) one.1 one.2
