-- A put or change of a block, a signal or a route leaves the paths of the runs that don't pass it.
use Rattle.std.proofs.Common.{◌≡◌, ℕ, ◌<◌, Bool, true, false, cond, List, [], ◌∷◌, ◌+◌, ◌++◌, length, map, get_or, Option, Some, None, Result, Ok, Err, refl, sym, ap, ◌∙◌, subst, inl, inr, arith}
use Rattle.std.specs.Prelude.{All, IfOk}
use Rattle.std.specs.declared.vec.Vec.{Vec}
use Rattle.std.specs.List.{zip}
use Rattle.std.proofs.lemmas.Bool.{cases_Bool, cases_lt, both_ways}
use Rattle.std.proofs.Math.ListN.{get_or-append}
use Rattle.std.proofs.lemmas.List.{length-map, get_or-map, get_or_push, length-append}
use Rattle.std.proofs.lemmas.List.Elements.{All-head, All-tail}
use Rattle.rail_model.specs.declared.items.Block.{Block}
use Rattle.rail_model.specs.declared.items.Signal.{Signal}
use Rattle.rail_model.specs.declared.items.Route.{Route}
use Rattle.rail_model.specs.declared.items.Leg.{Leg}
use Rattle.rail_model.specs.declared.items.Run.{Run}
use Rattle.rail_model.specs.declared.items.Item.{Item}
use Rattle.rail_model.specs.declared.items.Item.TheVariants as item
use Rattle.rail_model.specs.declared.edit.Edit.{Edit}
use Rattle.rail_model.specs.declared.edit.Edit.TheVariants as edit
use Rattle.rail_model.specs.declared.path.Hop.{Hop}
use Rattle.rail_model.specs.declared.path.Path.{Path}
use Rattle.rail_model.specs.declared.stair.Stair.{Stair}
use Rattle.rail_model.specs.declared.tables.Tables.{Tables}
use Rattle.rail_model.specs.Name.{is_same}
use Rattle.rail_model.specs.Tables.{no_block, no_signal, no_route, no_run, number_of, run_at, block_number, signal_named, route_named, hop_beyond, path_in}
use Rattle.rail_model.specs.Rules.{with_item, with_changed, after_put, after_change, after}
use Rattle.rail_model.proofs.NameOrder.{same_name, is_same-from}
use Rattle.rail_model.proofs.Members.{none_passes}
use Rattle.section_cut.specs.OneRun.{before, behind}
use Rattle.section_cut.specs.ReachedRuns.{PutKeepsBlocks, ChangeKeepsBlocks, KeepsBlocks, IsStairIfReached, passes_item, passes, IsTold}
use Rattle.section_cut.specs.Wanted.{IsStairOf}
use Rattle.section_cut.proofs.Around.{named_still, put_front, put_back, change_front, change_back}

-- the hops of names and legs, where the names fail a test and hops of such names are the same
hops_stay : (f g : List ℕ → Leg → Hop) (p : List ℕ → Bool) → ((m : List ℕ) (leg : Leg) → p m ≡ false → f m leg ≡ g m leg)
    → (names : List (List ℕ)) (legs : List Leg) → All (λ m. p m ≡ false) names
    → map (λ (x : List ℕ × Leg). f x.0 x.1) (zip names legs) ≡ map (λ (x : List ℕ × Leg). g x.0 x.1) (zip names legs)
hops_stay f g p same [] legs fails = refl
hops_stay f g p same (n ∷ names) [] fails = refl
hops_stay f g p same (n ∷ names) (leg ∷ legs) fails =
    let first = same n leg (All-head (λ m. p m ≡ false) n names fails) in
    rw (first, hops_stay f g p same names legs (All-tail (λ m. p m ≡ false) n names fails)) refl

-- a changed block keeps its number, and that of each other block
number_stays : (b : Block) (items : List Block) (n : List ℕ)
    → number_of (λ (x : Block). x.name) (with_changed (λ (x : Block). x.name) items b) n ≡ number_of (λ (x : Block). x.name) items n
number_stays b [] n = refl
number_stays b (y ∷ items) n =
    elim (cases_Bool (is_same y.name b.name)) [
      | inl e ↦ rw (e, sym (same_name y.name b.name e), number_stays b items n) refl
      | inr e ↦ rw (e, number_stays b items n) refl
    ]

module _ (tables : Tables) (run : Run) where
  -- the path over a list of signals, by the signals and blocks of the tables
  abbrev path_over : List (List ℕ) → Path
  path_over names = record {
    run = run.name;
    length_m = run.length_m;
    tail_s = run.tail_s;
    start_s = run.start_s;
    hops = map (λ (p : List ℕ × Leg). hop_beyond tables (signal_named tables p.0) p.1) (zip names run.legs);
  }

  abbrev path_with : List Hop → Path
  path_with hops = record { run = run.name; length_m = run.length_m; tail_s = run.tail_s; start_s = run.start_s; hops = hops }

  route_stays : (r : Route) (more : List Route) → before (λ (x : Route). x.name) r.name more ≡ before (λ (x : Route). x.name) r.name tables.routes
      → behind (λ (x : Route). x.name) r.name more ≡ behind (λ (x : Route). x.name) r.name tables.routes
      → is_same run.route r.name ≡ false → path_in (record tables { routes = more }) run ≡ path_in tables run
  route_stays r more front back other =
      ap (λ (x : Route). path_over x.signals)
      (named_still (λ (x : Route). x.name) r.name tables.routes more front back no_route run.route
      (λ e. both_ways (is_same run.route r.name) other (is_same-from run.route r.name (sym e))))

  signal_stays : (s : Signal) (more : List Signal) → before (λ (x : Signal). x.name) s.name more ≡ before (λ (x : Signal). x.name) s.name tables.signals
      → behind (λ (x : Signal). x.name) s.name more ≡ behind (λ (x : Signal). x.name) s.name tables.signals
      → All (λ m. is_same m s.name ≡ false) (route_named tables run.route).signals → path_in (record tables { signals = more }) run ≡ path_in tables run
  signal_stays s more front back others =
      ap path_with
      (hops_stay (λ m leg. hop_beyond tables (signal_named (record tables { signals = more }) m) leg) (λ m leg. hop_beyond tables (signal_named tables m) leg)
      (λ m. is_same m s.name)
      (λ m leg other.
      ap (λ (x : Signal). hop_beyond tables x leg)
      (named_still (λ (x : Signal). x.name) s.name tables.signals more front back no_signal m
      (λ e. both_ways (is_same m s.name) other (is_same-from m s.name (sym e)))))
      (route_named tables run.route).signals run.legs others)

  hop_stays : (b : Block) (s : Signal) (leg : Leg) → is_same s.block b.name ≡ false
      → hop_beyond (record tables { blocks = with_changed (λ (x : Block). x.name) tables.blocks b }) s leg ≡ hop_beyond tables s leg
  hop_stays b s leg other =
      let more = with_changed (λ (x : Block). x.name) tables.blocks b in
      let form : ℕ → Block → Hop = λ n x. record {
        block = n;
        block_m = x.length_m;
        approach_m = s.approach_m;
        watch_s = s.watch_s;
        form_s = s.form_s;
        overlap_m = s.overlap_m;
        release_s = s.release_s;
        running_s = leg.running_s;
        dwell_s = leg.dwell_s;
      } in
      ap (λ n. form n (get_or more (number_of (λ (x : Block). x.name) more s.block) no_block)) (number_stays b tables.blocks s.block)
      ∙ ap (form (block_number tables s.block))
      (named_still (λ (x : Block). x.name) b.name tables.blocks more (change_front (λ (x : Block). x.name) b tables.blocks) (change_back (λ (x : Block). x.name) b tables.blocks) no_block s.block
      (λ e. both_ways (is_same s.block b.name) other (is_same-from s.block b.name (sym e))))

  block_stays : (b : Block) → All (λ m. is_same (signal_named tables m).block b.name ≡ false) (route_named tables run.route).signals
      → path_in (record tables { blocks = with_changed (λ (x : Block). x.name) tables.blocks b }) run ≡ path_in tables run
  block_stays b others =
      ap path_with
      (hops_stay (λ m leg. hop_beyond (record tables { blocks = with_changed (λ (x : Block). x.name) tables.blocks b }) (signal_named tables m) leg)
      (λ m leg. hop_beyond tables (signal_named tables m) leg)
      (λ m. is_same (signal_named tables m).block b.name)
      (λ m leg other. hop_stays b (signal_named tables m) leg other)
      (route_named tables run.route).signals run.legs others)

  by_put : (x : Item) → PutKeepsBlocks x → passes_item (after_put tables x) x run ≡ false → path_in (after_put tables x) run ≡ path_in tables run
  by_put (item.Block b) not_one _ = absurd not_one
  by_put (item.Signal s) _ out =
      signal_stays s (with_item (λ (x : Signal). x.name) tables.signals s) (put_front (λ (x : Signal). x.name) s tables.signals) (put_back (λ (x : Signal). x.name) s tables.signals)
      (none_passes (λ m. is_same m s.name) (route_named tables run.route).signals out)
  by_put (item.Route r) _ out =
      route_stays r (with_item (λ (x : Route). x.name) tables.routes r) (put_front (λ (x : Route). x.name) r tables.routes) (put_back (λ (x : Route). x.name) r tables.routes) out
  by_put (item.Run r) not_one _ = absurd not_one
  by_put (item.Section s) not_one _ = absurd not_one
  by_put (item.Connection c) not_one _ = absurd not_one

  by_change : (x : Item) → ChangeKeepsBlocks x → passes_item (after_change tables x) x run ≡ false → path_in (after_change tables x) run ≡ path_in tables run
  by_change (item.Block b) _ out =
      block_stays b (none_passes (λ m. is_same (signal_named tables m).block b.name) (route_named tables run.route).signals out)
  by_change (item.Signal s) _ out =
      signal_stays s (with_changed (λ (x : Signal). x.name) tables.signals s) (change_front (λ (x : Signal). x.name) s tables.signals) (change_back (λ (x : Signal). x.name) s tables.signals)
      (none_passes (λ m. is_same m s.name) (route_named tables run.route).signals out)
  by_change (item.Route r) _ out =
      route_stays r (with_changed (λ (x : Route). x.name) tables.routes r) (change_front (λ (x : Route). x.name) r tables.routes) (change_back (λ (x : Route). x.name) r tables.routes) out
  by_change (item.Run r) not_one _ = absurd not_one
  by_change (item.Section s) not_one _ = absurd not_one
  by_change (item.Connection c) not_one _ = absurd not_one

  stays_after : (x : Edit) → KeepsBlocks x → passes (after tables x) x run ≡ false → path_in (after tables x) run ≡ path_in tables run
  stays_after (edit.Put x) one out = by_put x one out
  stays_after (edit.Change x) one out = by_change x one out
  stays_after (edit.Drop k n) not_one _ = absurd not_one

-- so a run's stair is made where it passes what is edited, and none where it doesn't
pub stair_told : (earlier later : Tables) (x : Edit) → later ≡ after earlier x → KeepsBlocks x → (told : List Bool) → IsTold (passes later x) later.runs told
    → (block : Option ℕ) (n : ℕ) → n < length later.runs → (its : Stair) → IsStairOf later block (run_at later n) its → (b : Bool) → b ≡ get_or told n b
    → (stair : Option Stair) → stair ≡ cond b (Some its) None → IsStairIfReached earlier later block (run_at later n) stair
stair_told earlier later x is keeps told tells block n below its one true e stair own = subst (IsStairIfReached earlier later block (run_at later n)) (sym own) one
stair_told earlier later x is keeps told tells block n below its one false e stair own =
    let out : passes later x (run_at later n) ≡ false = tells.each n false below (sym e) in
    let Stays : Tables → Type 0 = λ t. passes t x (run_at later n) ≡ false → path_in t (run_at later n) ≡ path_in earlier (run_at later n) in
    let stays = subst Stays (sym is) (stays_after earlier (run_at later n) x keeps) out in
    subst (IsStairIfReached earlier later block (run_at later n)) (sym own) stays

-- ---- what is told of each run

module _ (test : Run → Bool) (runs : List Run) where
  -- what the test says itself
  pub map_told : (told : List Bool) → told ≡ map test runs → IsTold test runs told
  map_told told is = record {
    count = ap length is ∙ length-map runs test;
    each = λ n d below out.
        sym (get_or-map test runs n no_run d below) ∙ ap (λ bs. get_or bs n d) (sym is) ∙ out;
  }

  pub read_told : {E Z : Type 0} (told : Result (Vec Bool Z) E) → IfOk told (λ v. v.items ≡ map test runs) → IfOk told (λ v. IsTold test runs v.items)
  read_told (Ok told) is = map_told told.items is
  read_told (Err e) is = tt

  -- of the first runs
  abbrev pub IsToldTo : ℕ → List Bool → Type 0
  IsToldTo n told =
      (length told ≡ n) × ((k : ℕ) (d : Bool) → k < n → get_or told k d ≡ false → test (get_or runs k no_run) ≡ false)

  pub told_more : (told more : List Bool) (n : ℕ) (b : Bool) → more ≡ told ++ b ∷ [] → IsToldTo n told
      → (b ≡ false → test (get_or runs n no_run) ≡ false) → IsToldTo (n + 1) more
  told_more told more n b is so_far own =
      let long = length-append told (b ∷ []) in (
        omega (arith, ap length is, long, so_far.0),
        λ k d below.
            let Here : ℕ → Bool → Type 0 = λ k o. o ≡ false → test (get_or runs k no_run) ≡ false in
            subst (λ (os : List Bool). Here k (get_or os k d)) (sym is)
            (elim (cases_lt k n) [
              | inl lt ↦ subst (Here k) (sym (get_or-append told (b ∷ []) d k (omega (arith, lt, so_far.0)))) (so_far.1 k d lt)
              | inr ge ↦
                  let last : k ≡ n = omega (arith, ge, below) in
                  subst (Here k) (sym (get_or_push told b d k (omega (arith, so_far.0, last)))) (subst (λ j. Here j b) (sym last) own)
            ]),
      )

-- what holds of every test holds of one
pub any_told : {E Z : Type 0} (test : Run → Bool) (runs : List Run) (told : Result (Vec Bool Z) E)
    → IfOk told (λ v. (test : Run → Bool) → IsTold test runs v.items) → IfOk told (λ v. IsTold test runs v.items)
any_told test runs (Ok told) is = is test
any_told test runs (Err e) is = tt
