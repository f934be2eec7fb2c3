-- The rows of the conflicts that were found are those of the definition.
use Rattle.std.proofs.Common.{◌≡◌, ℕ, ◌<◌, length, map, take, get_or, refl, ap, ◌∙◌, arith}
use Rattle.std.specs.Prelude.{pos}
use Rattle.std.specs.List.{All, Contains}
use Rattle.std.proofs.lemmas.List.{length-map, get_or-map, get_or-take, length-take}
use Rattle.std.proofs.lemmas.List.Elements.{Contains-get_or}
use Rattle.rail_model.specs.declared.tables.Tables.{Tables}
use Rattle.rail_model.specs.Conflict as whole
use Rattle.rail_model.specs.Rules.{IsSound}
use Rattle.rail_model.proofs.Timetables.{conflict_there}
use Rattle.conflict_finder.specs.declared.found.Conflict.{Conflict}
use Rattle.conflict_finder.specs.declared.found.Conflicts.{Conflicts}
use Rattle.conflict_finder.specs.declared.found.TheConstants.{LISTED}
use Rattle.conflict_finder.specs.Found.{as_listed, IsFound}
use Rattle.rail_model.specs.Conflict.{timetable}
use Rattle.capacity_report.specs.Rows.{conflict_row, found_rows, check_rows}

pub listed_there : (tables : Tables) → IsSound tables → (found : Conflicts) → IsFound (timetable tables) found → (i : ℕ) (d : Conflict) → i < length found.list → (get_or found.list i d).block < length tables.blocks
listed_there tables sound found f i d l =
    let some : Conflict → whole.Conflict = λ c. record { block = c.block; first = c.first; first_start = pos 0; second = c.second; from = c.from; to = c.to } in
    let count : length (map as_listed (take LISTED f.all)) ≡ length (take LISTED f.all) = length-map (take LISTED f.all) as_listed in
    let within : i < length (take LISTED f.all) = omega (arith, ap length f.list, count) in
    let here : get_or found.list i d ≡ as_listed (get_or f.all i (some d)) =
    ap (λ xs. get_or xs i d) f.list ∙ get_or-map as_listed (take LISTED f.all) i (some d) d within ∙ ap as_listed (get_or-take LISTED f.all i (some d) (omega (arith, length-take LISTED f.all))) in
    let there : Contains f.all (get_or f.all i (some d)) = Contains-get_or f.all i (some d) (omega (arith, length-take LISTED f.all)) in
    rw here (conflict_there tables sound (get_or f.all i (some d)) ((f.are.each (get_or f.all i (some d))).0 there))

-- the blocks of all that are listed are there
pub all_there : (tables : Tables) → IsSound tables → (found : Conflicts) → IsFound (timetable tables) found → All (λ (c : Conflict). c.block < length tables.blocks) found.list
all_there tables sound found f i d l = listed_there tables sound found f i d l

-- the rows of what was found are those of all conflicts
pub rows_found : (tables : Tables) (found : Conflicts) → (f : IsFound (timetable tables) found) → found_rows tables found ≡ check_rows tables f.all
rows_found tables found f =
    let count : length found.list ≡ length (take LISTED f.all) = ap length f.list ∙ length-map (take LISTED f.all) as_listed in
    let rows : map (conflict_row tables) found.list ≡ map (conflict_row tables) (map as_listed (take LISTED f.all)) = ap (map (conflict_row tables)) f.list in
    rw (rows, count, f.more) refl
