-- Edits that reach no run: what stands both before and after them is the same.
use Rattle.std.proofs.Common.{◌≡◌, ℕ, ◌<◌, true, false, List, [], ◌∷◌, length, get_or, refl, sym, subst, inl, inr}
use Rattle.std.specs.Prelude.{All}
use Rattle.std.specs.List.{list_all}
use Rattle.std.proofs.lemmas.Bool.{cases_Bool, both_ways}
use Rattle.std.proofs.lemmas.List.Sums.{AllPass-from_list_all}
use Rattle.rail_model.specs.declared.items.Block.{Block}
use Rattle.rail_model.specs.declared.items.Signal.{Signal}
use Rattle.rail_model.specs.declared.items.Route.{Route}
use Rattle.rail_model.specs.declared.items.Run.{Run}
use Rattle.rail_model.specs.declared.items.Item.{Item}
use Rattle.rail_model.specs.declared.items.Item.TheVariants as item
use Rattle.rail_model.specs.declared.edit.Kind.{Kind}
use Rattle.rail_model.specs.declared.edit.Kind.TheVariants as kind
use Rattle.rail_model.specs.declared.edit.Edit.{Edit}
use Rattle.rail_model.specs.declared.edit.Edit.TheVariants as edit
use Rattle.rail_model.specs.declared.tables.Tables.{Tables}
use Rattle.rail_model.specs.Name.{is_same}
use Rattle.rail_model.specs.Tables.{no_block, no_signal, no_route, number_of, signal_named, route_named}
use Rattle.rail_model.specs.Rules.{is_named, has_block, has_signal, has_route, with_item, without, after_put, after_drop, after, Stands, IsSound}
use Rattle.rail_model.proofs.Paths.{signal_stands, route_stands}
use Rattle.plan_model.specs.Cut.{cut_of}
use Rattle.section_cut.specs.Reach.{PutReachesNoRun, DropReachesNoRun, ReachesNoRun}
use Rattle.section_cut.proofs.Around.{named_still, put_front, put_back, drop_front, drop_back}
use Rattle.section_cut.proofs.Standing.{IsSameWay, IsSameLine, cuts_still}

-- an item that is there before and after is the same
abbrev StaysNamed : {X : Type 0} → (X → List ℕ) → X → List X → List X → Type 0
StaysNamed name d items more =
    (n : List ℕ) → is_named name items n ≡ true → is_named name more n ≡ true
    → get_or more (number_of name more n) d ≡ get_or items (number_of name items n) d

module _ {X : Type 0} (name : X → List ℕ) (d : X) (items : List X) where
  by_put : (x : X) → is_named name items (name x) ≡ false → StaysNamed name d items (with_item name items x)
  by_put x new n known still =
      named_still name (name x) items (with_item name items x) (put_front name x items) (put_back name x items) d n
      (λ e. both_ways (is_named name items n) (subst (λ m. is_named name items m ≡ false) e new) known)

  gone : (n : List ℕ) (some : List X) → is_named name (without name some n) n ≡ false
  gone n [] = refl
  gone n (x ∷ some) =
      elim (cases_Bool (is_same (name x) n)) [
        | inl e ↦ rw e (gone n some)
        | inr e ↦ rw e (rw e (gone n some))
      ]

  by_drop : (m : List ℕ) → StaysNamed name d items (without name items m)
  by_drop m n known still =
      named_still name m items (without name items m) (drop_front name m items) (drop_back name m items) d n
      (λ e. both_ways (is_named name (without name items m) n) (subst (λ k. is_named name (without name items m) k ≡ false) e (gone m items)) still)

-- where what stands both before and after is the same, so is each run's way
module _ (earlier later : Tables) (earlier_sound : IsSound earlier) (later_sound : IsSound later) (runs : later.runs ≡ earlier.runs) where
  route_known : (k : ℕ) (d : Run) → k < length earlier.runs → has_route earlier (get_or earlier.runs k d).route ≡ true
  route_known k d l = (earlier_sound.runs.each k d l).known

  route_still : (k : ℕ) (d : Run) → k < length earlier.runs → has_route later (get_or earlier.runs k d).route ≡ true
  route_still k d l =
      (subst (All (λ (r : Run). Stands later (item.Run r))) runs later_sound.runs.each k d l).known

  ways : StaysNamed (λ (b : Block). b.name) no_block earlier.blocks later.blocks
      → StaysNamed (λ (s : Signal). s.name) no_signal earlier.signals later.signals
      → All (λ run. route_named later run.route ≡ route_named earlier run.route) earlier.runs
      → All (IsSameWay earlier later) earlier.runs
  ways blocks signals routes k d l =
      let run = get_or earlier.runs k d in
      let names = (route_named earlier run.route).signals in
      let listed = (route_stands earlier earlier_sound run.route (route_known k d l)).known in
      let listed_still =
      subst (λ (r : Route). list_all (has_signal later) r.signals ≡ true) (routes k d l)
      (route_stands later later_sound run.route (route_still k d l)).known in
      record {
        route = routes k d l;
        signals = λ j e m.
            let n = get_or names j e in
            let there = AllPass-from_list_all (has_signal earlier) names listed j e m in
            let still = AllPass-from_list_all (has_signal later) names listed_still j e m in
            let same = signals n there still in
            let block = (signal_stands earlier earlier_sound n there).known in
            let block_still = subst (λ (s : Signal). has_block later s.block ≡ true) same (signal_stands later later_sound n still).known in
            record { signal = same; there = block; still = block_still; block = blocks (signal_named earlier n).block block block_still };
      }

module _ (tables : Tables) (sound : IsSound tables) where
  put_still : (x : Item) → IsSound (after_put tables x) → PutReachesNoRun tables x → IsSameLine tables (after_put tables x)
  put_still (item.Block b) later new = record {
    runs = refl;
    sections = refl;
    connections = refl;
    ways = ways tables (after_put tables (item.Block b)) sound later refl
        (by_put (λ (x : Block). x.name) no_block tables.blocks b new) (λ n known still. refl) (λ k d l. refl);
  }
  put_still (item.Signal s) later not_one = absurd not_one
  put_still (item.Route r) later apart = record {
    runs = refl;
    sections = refl;
    connections = refl;
    ways = ways tables (after_put tables (item.Route r)) sound later refl
        (λ n known still. refl) (λ n known still. refl)
        (λ k d l. named_still (λ (x : Route). x.name) r.name tables.routes (with_item (λ (x : Route). x.name) tables.routes r)
        (put_front (λ (x : Route). x.name) r tables.routes) (put_back (λ (x : Route). x.name) r tables.routes) no_route (get_or tables.runs k d).route
        (λ e. apart k d l (sym e)));
  }
  put_still (item.Run r) later not_one = absurd not_one
  put_still (item.Section s) later not_one = absurd not_one
  put_still (item.Connection c) later not_one = absurd not_one

  drop_still : (k : Kind) (n : List ℕ) → IsSound (after_drop tables k n) → DropReachesNoRun k → IsSameLine tables (after_drop tables k n)
  drop_still kind.Block n later _ = record {
    runs = refl;
    sections = refl;
    connections = refl;
    ways = ways tables (after_drop tables kind.Block n) sound later refl
        (by_drop (λ (x : Block). x.name) no_block tables.blocks n) (λ n known still. refl) (λ k d l. refl);
  }
  drop_still kind.Signal n later _ = record {
    runs = refl;
    sections = refl;
    connections = refl;
    ways = ways tables (after_drop tables kind.Signal n) sound later refl
        (λ n known still. refl) (by_drop (λ (x : Signal). x.name) no_signal tables.signals n) (λ k d l. refl);
  }
  drop_still kind.Route n later _ = record {
    runs = refl;
    sections = refl;
    connections = refl;
    ways = ways tables (after_drop tables kind.Route n) sound later refl
        (λ n known still. refl) (λ n known still. refl)
        (λ k d l. by_drop (λ (x : Route). x.name) no_route tables.routes n (get_or tables.runs k d).route
        (route_known tables (after_drop tables kind.Route n) sound later refl k d l)
        (route_still tables (after_drop tables kind.Route n) sound later refl k d l));
  }
  drop_still kind.Run n later not_one = absurd not_one
  drop_still kind.Section n later not_one = absurd not_one
  drop_still kind.Connection n later not_one = absurd not_one

  still_after : (x : Edit) → IsSound (after tables x) → ReachesNoRun tables x → IsSameLine tables (after tables x)
  still_after (edit.Put x) later one = put_still x later one
  still_after (edit.Change x) later not_one = absurd not_one
  still_after (edit.Drop k n) later one = drop_still k n later one

-- such an edit leaves all cuts
pub cuts_stay : (earlier later : Tables) (x : Edit) → later ≡ after earlier x → IsSound earlier → IsSound later
    → ReachesNoRun earlier x → (section : List ℕ) → cut_of later section ≡ cut_of earlier section
cuts_stay earlier later x is sound later_sound reaches section =
    let after_sound = subst IsSound is later_sound in
    subst (λ (t : Tables). cut_of t section ≡ cut_of earlier section) (sym is)
    (cuts_still earlier (after earlier x) (still_after earlier sound x after_sound reaches) sound after_sound section)
