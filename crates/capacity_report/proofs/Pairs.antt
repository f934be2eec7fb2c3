-- The rows of headways, pair by pair.
use Rattle.std.proofs.Common.{◌≡◌, ℕ, ◌<◌, List, [], ◌∷◌, ◌++◌, get_or, refl, sym, ap, ◌∙◌, append-nil, arith}
use Rattle.std.specs.Prelude.{ℤ, Option, None, Some, option_map, codes}
use Rattle.std.specs.List.{flat_map, filter_map, cons_option}
use Rattle.std.proofs.lemmas.List.{get_or-map}
use Rattle.std.proofs.lemmas.List.FromFn.{get_or-range_with_len}
use Rattle.plan_model.specs.declared.cut.Cut.{Cut}
use Rattle.plan_model.specs.declared.cut.CutRow.{CutRow}
use Rattle.plan_model.specs.Members.{member, members, member_count, no_member}
use Rattle.headway_table.specs.Table.{between}
use Rattle.critical_chain.proofs.Walk.{read}
use Rattle.row_text.specs.SheetRows.{Row}
use Rattle.capacity_report.specs.Rows.{headway_row, rows_from}
use Rattle.capacity_report.specs.Pairs.{name_of, names_of, head_of, rows_to, pair_rows}

-- the member at a position
pub member_at : (cut : Cut) (i d : ℕ) → i < member_count cut → get_or (members cut) i d ≡ i
member_at cut i d l = get_or-range_with_len 0 (member_count cut) i d l ∙ omega arith

-- the rows of two members
pair_is : (cut : Cut) (i j : ℕ) (o : Option ℤ) (rows : List Row)
    → cons_option (option_map (headway_row cut i j) o) rows
    ≡ rows_to (head_of cut i) (name_of (member cut j)) o ++ rows
pair_is cut i j None rows = refl
pair_is cut i j (Some seconds) rows = refl

pairs_are : (cut : Cut) (i : ℕ) (some : List ℕ)
    → filter_map (λ j. option_map (headway_row cut i j) (between cut i j)) some ≡ flat_map (pair_rows cut i) some
pairs_are cut i [] = refl
pairs_are cut i (j ∷ some) =
    pair_is cut i j (between cut i j) (filter_map (λ k. option_map (headway_row cut i k) (between cut i k)) some)
    ∙ ap (λ rows. pair_rows cut i j ++ rows) (pairs_are cut i some)

-- the rows from one member, pair by pair
pub from_pairs : (cut : Cut) (i : ℕ) → rows_from cut i ≡ flat_map (pair_rows cut i) (members cut)
from_pairs cut i = pairs_are cut i (members cut)

-- what stands at the head of a member's rows, by the row that is read at its position
pub head_there : (cut : Cut) (i : ℕ) (d : CutRow) (rows : List CutRow) → rows ≡ cut.rows → i < member_count cut
    → codes "headway" ∷ (get_or rows i d).name ∷ [] ≡ head_of cut i
head_there cut i d rows same l = ap (λ (r : CutRow). codes "headway" ∷ r.name ∷ []) (read rows cut.rows i d no_member same l)

-- the name that is read at a member's position
pub name_there : (cut : Cut) (j : ℕ) (name : Row) (names : List Row) → names ≡ names_of cut → j < member_count cut → name ≡ get_or names j name
    → name ≡ name_of (member cut j)
name_there cut j name names same l is =
    is ∙ ap (λ all. get_or all j name) same ∙ get_or-map name_of cut.rows j no_member name l

-- the rows of a pair by what was read
pub pair_there : (cut : Cut) (i j : ℕ) → j < member_count cut → {head second : Row} {o : Option ℤ}
    → head ≡ head_of cut i → second ≡ name_of (member cut j) → o ≡ between cut i j
    → rows_to head second o ≡ flat_map (pair_rows cut i) (get_or (members cut) j 0 ∷ [])
pair_there cut i j l head second o =
    rw (member_at cut j 0 l, head, second, o) (sym (append-nil (pair_rows cut i j)))
