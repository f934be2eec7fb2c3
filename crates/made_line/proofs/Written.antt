-- Rows of lines that are written one after the other.
use Rattle.std.proofs.Common.{◌≡◌, ℕ, zero, suc, ◌+◌, ◌<◌, List, [], ◌∷◌, ◌++◌, length, map, take, get_or, slice_index_or, refl, sym, ap, ◌∙◌, append_assoc, append-nil, arith}
use Rattle.std.specs.List.{flat_map, enumerate_from}
use Rattle.std.proofs.lemmas.List.{take_more, map-append}
use Rattle.plan_model.specs.declared.scripts.Task.{Task}
use Rattle.rail_model.specs.declared.edit.Edit.TheVariants as edit
use Rattle.row_text.specs.declared.line.Line.{Line}
use Rattle.row_text.specs.declared.line.Line.TheVariants as line
use Rattle.row_text.specs.SheetRows.{Row, text_of_rows}
use Rattle.row_text.specs.Lines.{row_in}
use Rattle.made_line.specs.Base.{base_edits, scripts_of_made}
use Rattle.made_line.specs.Text.{line_of, script_lines, lines_of_scripts, made_lines, rows_of, made_text}

-- a row has its word at least
pub has_word : (l : Line) → 0 < length (row_in 1 l)
has_word (line.Edit (edit.Put x)) = omega arith
has_word (line.Edit (edit.Change x)) = omega arith
has_word (line.Edit (edit.Drop k name)) = omega arith
has_word (line.Ask section) = omega arith
has_word (line.Planner planner) = omega arith

-- one line more
pub line_more : {X : Type 0} (before so_far after : List Row) (line_for : X → Line) (items : List X) (i : ℕ) (d : X)
    → i < length items → so_far ≡ before ++ rows_of (map line_for (take i items))
    → after ≡ so_far ++ row_in 1 (line_for (get_or items i d)) ∷ []
    → after ≡ before ++ rows_of (map line_for (take (i + 1) items))
line_more before so_far after line_for items i d below is step =
    let x = get_or items i d in
    let first = take i items in
    let more : rows_of (map line_for (take (i + 1) items)) ≡ rows_of (map line_for first) ++ row_in 1 (line_for x) ∷ [] =
    ap (λ xs. rows_of (map line_for xs)) (take_more items i d below)
    ∙ ap rows_of (map-append line_for first (x ∷ [])) ∙ map-append (row_in 1) (map line_for first) (line_for x ∷ [])
    in
    step ∙ ap (λ rows. rows ++ row_in 1 (line_for x) ∷ []) is
    ∙ append_assoc before (rows_of (map line_for first)) (row_in 1 (line_for x) ∷ [])
    ∙ ap (λ rows. before ++ rows) (sym more)

lines_from : ℕ → List (List Task) → List Line
lines_from first scripts = flat_map (λ s. script_lines s.0 s.1) (enumerate_from first scripts)

one_script_more : (first : ℕ) (scripts : List (List Task)) (i planner : ℕ) → first + i ≡ planner → i < length scripts
    → lines_from first (take (i + 1) scripts)
    ≡ lines_from first (take i scripts) ++ script_lines planner (get_or scripts i [])
unfolding lines_from
one_script_more first [] i planner e below = absurd (omega (arith, below))
one_script_more first (s ∷ scripts) zero planner e below =
    let same : first ≡ planner = omega (arith, e) in
    append-nil (script_lines first s) ∙ ap (λ p. script_lines p s) same
one_script_more first (s ∷ scripts) (suc i) planner e below =
    let same : suc i + 1 ≡ suc (i + 1) = omega arith in
    let next : first + 1 + i ≡ planner = omega (arith, e) in
    rw same
    (ap (λ lines. script_lines first s ++ lines) (one_script_more (first + 1) scripts i planner next (omega (arith, below)))
    ∙ sym (append_assoc (script_lines first s) (lines_from (first + 1) (take i scripts)) (script_lines planner (get_or scripts i []))))

from_first : (scripts : List (List Task)) → lines_of_scripts scripts ≡ lines_from 1 scripts
unfolding lines_from
from_first scripts = refl

-- one script more
pub script_more : (before so_far later after : List Row) (scripts : List (List Task)) (i : ℕ) → i < length scripts
    → so_far ≡ before ++ rows_of (lines_of_scripts (take i scripts))
    → later ≡ so_far ++ row_in 1 (line.Planner (i + 1)) ∷ []
    → after ≡ later ++ rows_of (map line_of (slice_index_or scripts i []))
    → after ≡ before ++ rows_of (lines_of_scripts (take (i + 1) scripts))
script_more before so_far later after scripts i below is planner tasks =
    let lines = lines_from 1 (take i scripts) in
    let next = script_lines (i + 1) (slice_index_or scripts i []) in
    let more : lines_of_scripts (take (i + 1) scripts) ≡ lines ++ next =
    from_first (take (i + 1) scripts) ∙ one_script_more 1 scripts i (i + 1) (omega arith) below
    in
    rw (tasks, planner, is, from_first (take i scripts), more)
    (append_assoc (before ++ rows_of lines) (row_in 1 (line.Planner (i + 1)) ∷ []) (rows_of (map line_of (slice_index_or scripts i [])))
    ∙ append_assoc before (rows_of lines) (rows_of next)
    ∙ ap (λ rows. before ++ rows) (sym (map-append (row_in 1) lines next)))

-- the rows of the base and then of the scripts are all
pub all_rows : (n : ℕ) (rows : List Row)
    → rows ≡ rows_of (map line.Edit (base_edits n)) ++ rows_of (lines_of_scripts (scripts_of_made n))
    → text_of_rows rows ≡ made_text n
unfolding made_lines
all_rows n rows is =
    ap text_of_rows (is ∙ sym (map-append (row_in 1) (map line.Edit (base_edits n)) (lines_of_scripts (scripts_of_made n))))
