use Rattle.std.proofs.Common.{◌≡◌, ◌<◌, length, get_or, List, sym, ap, ◌∙◌, subst}
use Rattle.rail_model.specs.declared.path.Path.{Path}
use Rattle.rail_model.specs.Blocking.{Fits}
use Rattle.line_tables.specs.Hops.{path_with, with_legs, hops_at, paths_by_keys}
use Rattle.line_tables.specs.Paths.{no_path, path_at}
use Rattle.line_tables.proofs.KeyedPaths.{keys_there, path_read}
use Rattle.line_tables.proofs.run_paths.Paths.path.Goals as goal

pub timed_hops-requires : goal.timed_hops-requires
timed_hops-requires c =
    let t = c.self.inside in
    let e = c.nth-entry.result.now in
    let r = c.get-route.result.now in
    let here = rw c.slice.ensures at c.get-route.ensures.item in
    rw (c.slice-2.ensures, c.deref.ensures.value) (keys_there t.routes.now t.hops.items (get_or e.refs 0 0) r here c.self.invariant.within)

-- the path is the one at its place
read : (c : goal.After-path_with) → c.path_with.result ≡ get_or (paths_by_keys c.self.inside.runs.now c.self.inside.routes.now c.self.inside.hops.items) c.args.run no_path
read c =
    let t = c.self.inside in
    let e = c.nth-entry.result.now in
    let r = c.get-route.result.now in
    let here = rw c.slice.ensures at c.get-route.ensures.item in
    let hops : c.in_ok-hops.hops ≡ with_legs (hops_at t.hops.items r.refs) e.item.legs = rw (c.deref.ensures.value, c.slice-2.ensures, c.slice-legs.ensures) at c.in_ok-hops.ensures in
    c.path_with.ensures ∙ ap (path_with e.item) hops
    ∙ sym (path_read t.runs.now t.routes.now t.hops.items c.args.run e r no_path c.nth-entry.ensures.item here)

pub returns-clause-same : goal.returns-clause-same
returns-clause-same c = read c ∙ ap (λ (paths : List Path). path_at paths c.args.run) c.self.view_is

pub returns-clause-fits : goal.returns-clause-fits
returns-clause-fits c =
    let on = subst (λ (paths : List Path). c.args.run < length paths) (sym c.self.view_is) c.requires in
    subst Fits (sym (read c)) (c.self.invariant.fits c.args.run no_path on)
