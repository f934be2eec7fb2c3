-- The paths of runs over routes as their table keeps them.
use Rattle.std.proofs.Common.{◌≡◌, ℕ, ◌<◌, List, [], get_or, length, Option, Some, None, refl, ap, ◌∙◌, subst}
use Rattle.std.specs.Prelude.{All, IsSome, option_map}
use Rattle.std.specs.Option.{option_map_or}
use Rattle.rail_model.specs.declared.items.Route.{Route}
use Rattle.rail_model.specs.declared.items.Run.{Run}
use Rattle.rail_model.specs.declared.path.Hop.{Hop}
use Rattle.rail_model.specs.Blocking.{Fits}
use Rattle.rail_model.proofs.Lists.{map_same}
use Rattle.line_tables.specs.declared.kept_route.KeptRoute.{KeptRoute}
use Rattle.line_tables.specs.declared.linked.Linked.{Linked}
use Rattle.line_tables.specs.declared.line_tables.LineTables.TheInside.{Inside}
use Rattle.line_tables.specs.Table.{under}
use Rattle.line_tables.specs.KeptRoutes.{with_names}
use Rattle.line_tables.specs.Inside.{whole_tables}
use Rattle.line_tables.specs.Hops.{hops_at, path_over, path_by_keys, paths_by_keys, ArePaths}
use Rattle.line_tables.proofs.KeptRoutes.{All-unmap, under_with_names}

-- what is kept of a route under a key is there where the route is
there_as_kept : {X Y : Type 0} (f : X → Y) (o : Option X) (named : Option Y) → named ≡ option_map f o → IsSome named → IsSome o
there_as_kept f None named is here = subst IsSome is here
there_as_kept f (Some x) named is here = refl

keys_as_kept : (f : Linked KeptRoute → Linked Route) (o : Option (Linked KeptRoute)) → ((e : Linked KeptRoute) → (f e).refs ≡ e.refs) → option_map_or (λ r. r.refs) (option_map f o) [] ≡ option_map_or (λ r. r.refs) o []
keys_as_kept f None same = refl
keys_as_kept f (Some e) same = same e

module _ (t : Inside) (hops : List Hop) where
  path_as_kept : (run : Linked Run) → path_by_keys (whole_tables t).routes hops run ≡ path_by_keys t.routes hops run
  path_as_kept run =
      let k = get_or run.refs 0 0 in
      ap (λ keys. path_over run.item (hops_at hops keys))
      (ap (λ o. option_map_or (λ (r : Linked Route). r.refs) o []) (under_with_names t.signals t.routes k) ∙ keys_as_kept (with_names t.signals) (under t.routes k) (λ e. refl))

  pub paths_as_kept : paths_by_keys t.runs (whole_tables t).routes hops ≡ paths_by_keys t.runs t.routes hops
  paths_as_kept =
      map_same (λ u. path_by_keys (whole_tables t).routes hops u.1) (λ u. path_by_keys t.routes hops u.1) t.runs
      (λ i d l. path_as_kept (get_or t.runs i d).1)

  pub kept_paths : ArePaths t.runs (whole_tables t).routes hops → ArePaths t.runs t.routes hops
  kept_paths are = record {
    refers = are.refers;
    there = λ i d l.
        let k = get_or (get_or t.runs i d).1.refs 0 0 in
        there_as_kept (with_names t.signals) (under t.routes k) (under (whole_tables t).routes k) (under_with_names t.signals t.routes k) (are.there i d l);
    within = All-unmap (λ u. All (λ k. k < length hops) u.1.refs) (λ (u : ℕ × Linked KeptRoute). (u.0, with_names t.signals u.1)) t.routes are.within;
    fits = subst (All Fits) paths_as_kept are.fits;
  }
