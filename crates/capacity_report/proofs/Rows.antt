-- Rows that are added to a sheet one after the other.
use Rattle.std.proofs.Common.{◌≡◌, ℕ, ◌<◌, List, [], ◌∷◌, ◌++◌, length, map, Result, Ok, Err, OnOk, OnErr, refl, sym, ap, ◌∙◌, arith}
use Rattle.std.specs.Prelude.{◌-◌, codes}
use Rattle.std.specs.List.{All, flat_map, range_with_len}
use Rattle.std.proofs.lemmas.Simd.{map-map}
use Rattle.std.proofs.lemmas.List.Folds.{flat_map-map}
use Rattle.std.proofs.lemmas.List.FromFn.{fill_by_all}
use Rattle.blocking_time.specs.declared.walk.Blocking.{Blocking}
use Rattle.blocking_time.specs.Blocking.{blocking_of}
use Rattle.rail_model.proofs.Lists.{All-from_one}
use Rattle.rail_model.specs.declared.path.Hop.{Hop}
use Rattle.rail_model.specs.declared.path.Path.{Path}
use Rattle.rail_model.specs.declared.tables.Tables.{Tables}
use Rattle.rail_model.specs.declared.items.Block.{Block}
use Rattle.rail_model.specs.declared.items.Run.{Run}
use Rattle.rail_model.specs.Blocking.{hop, hop_count, no_hop}
use Rattle.rail_model.specs.Tables.{no_block, path_in}
use Rattle.line_tables.specs.Paths.{no_path, paths_of, path_at}
use Rattle.line_tables.proofs.PathsOf.{paths_count}
use Rattle.std.proofs.Math.ListN.{get_or-map as get_or-map-any}
use Rattle.row_text.specs.SheetRows.{Row, SheetRows}
use Rattle.row_text.specs.Adds.{AddsFirst, Adds}
use Rattle.capacity_report.specs.Rows.{hop_row, run_rows, stairs_rows}
use Rattle.capacity_report.specs.Blockings.{blocking_row, named_row, rows_by_names, rows_at, names_of}

-- the block of each blocking is among the names where that of each hop is
pub blockings_there : (count : ℕ) (path : Path) (all : List Blocking) → all ≡ map (blocking_of path) (range_with_len 1 (hop_count path)) → All (λ (h : Hop). h.block < count) path.hops → All (λ (b : Blocking). b.used.block < count) all
blockings_there count path all each hops =
    rw each (All-from_one (λ (b : Blocking). b.used.block < count) (blocking_of path) (hop_count path) (λ k low high. hops (k - 1) no_hop (omega arith)))

-- the rows by the names of the blocks are the rows of the run
pub rows_named : (tables : Tables) (names : List Row) (path : Path) → names ≡ names_of tables → rows_by_names names path ≡ run_rows tables path
rows_named tables names path is =
    ap (λ all. rows_by_names all path) is
    ∙ map-map (named_row (names_of tables) (codes "use" ∷ path.run ∷ [])) (blocking_of path) (range_with_len 1 (hop_count path))
    ∙ ap (λ (row_of : ℕ → Row). map row_of (range_with_len 1 (hop_count path))) (λ j k. row_is k j)
  where
    row_is : (k : ℕ) → named_row (names_of tables) (codes "use" ∷ path.run ∷ []) (blocking_of path k) ≡ hop_row tables path k
    row_is k = ap (λ (block : Row). blocking_row (codes "use" ∷ path.run ∷ []) block (blocking_of path k)) (get_or-map-any (λ (b : Block). b.name ∷ []) tables.blocks (hop path k).block no_block)

-- the rows of the paths of all runs, by number, are those of `stairs`
pub rows_of_all : (tables : Tables) (names : List Row) (paths : List Path) (count : ℕ) → names ≡ names_of tables → paths ≡ paths_of tables
    → count ≡ length tables.runs → flat_map (rows_at names paths) (range_with_len 0 count) ≡ stairs_rows tables
rows_of_all tables names paths count named are many =
    let each : paths ≡ map (path_at paths) (range_with_len 0 count) =
    fill_by_all (path_at paths) paths count no_path (paths_count tables paths are ∙ sym many) (λ k l. refl) in
    sym (flat_map-map (rows_by_names names) (path_at paths) (range_with_len 0 count))
    ∙ ap (flat_map (rows_by_names names)) (sym each ∙ are)
    ∙ flat_map-map (rows_by_names names) (path_in tables) tables.runs
    ∙ ap (λ (rows_of : Run → List Row). flat_map rows_of tables.runs) (λ j run. rows_named tables names (path_in tables run) named j)

-- a call that adds rows, by its clauses
pub adds_from : {T E : Type 0} (before after : SheetRows) (added : List Row) (result : Result T E) → OnOk result (after.rows ≡ before.rows ++ added)
    → OnOk result (after.row ≡ []) → OnErr result (AddsFirst before after added) → Adds result before after added
adds_from before after added (Ok x) rows closed first = record { rows = rows; closed = closed }
adds_from before after added (Err e) rows closed first = first
