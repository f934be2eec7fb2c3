-- The journal of each session of the scripts has made all.
use Rattle.std.proofs.Common.{◌≡◌, ℕ, ◌<◌, List, [], ◌∷◌, ◌++◌, length, map, None, refl, sym, ap, subst, ◌∙◌, arith}
use Rattle.std.specs.Prelude.{All, filter_map}
use Rattle.std.specs.List.{flat_map, range_with_len}
use Rattle.std.specs.List.Sorted.{IsPermutation}
use Rattle.std.proofs.lemmas.List.Folds.{flat_map-map}
use Rattle.rail_model.specs.declared.edit.Edit.{Edit}
use Rattle.rail_model.specs.declared.tables.Tables.{Tables}
use Rattle.rail_model.specs.Rules.{after, after_edits, rule_of}
use Rattle.plan_model.specs.declared.scripts.Task.{Task}
use Rattle.plan_model.specs.declared.journal.Act.TheVariants as act
use Rattle.plan_model.specs.declared.journal.Entry.{Entry}
use Rattle.plan_model.specs.Journal.{edits, tables_of, done_by}
use Rattle.plan_model.specs.Legal.{IsLegal}
use Rattle.plan_model.specs.Session.{actors, opened, entered}
use Rattle.plan_model.proofs.Growing.{edits-more, tables_of-more, done_by-more}
use Rattle.plan_model.proofs.Touching.{legal_later}
use Rattle.made_line.specs.Base.{scripts_of_made, base_tables}
use Rattle.made_line.specs.Later.{edit_in, edits_in}
use Rattle.made_line.specs.Laws.{EachSessionMakesAll}
use Rattle.made_line.proofs.Later.{MakesLater, and_times, where_counted, none_is_later, makes_one_later}
use Rattle.made_line.proofs.AnyOrder.{each_makes_later, how_many, any_order_makes_one}
use Rattle.made_line.proofs.Planners.{edits_by_all, each_is_made}

-- ---- the first entries

enter : ℕ → Entry
enter number = record { pass = 0; act = act.Entered number }

none_edited : (numbers : List ℕ) → edits (map enter numbers) ≡ []
unfolding enter
none_edited [] = refl
none_edited (n ∷ numbers) = none_edited numbers

none_done : (numbers : List ℕ) (planner : ℕ) → done_by (map enter numbers) planner ≡ []
unfolding enter done_by
none_done [] planner = refl
none_done (n ∷ numbers) planner = none_done numbers planner

abbrev opening_of : Tables → ℕ → List (List Task) → ℕ → List Entry
opening_of tables at scripts workers = opened tables at scripts ∷ entered (actors (length scripts) workers)

no_edits : (tables : Tables) (at : ℕ) (scripts : List (List Task)) (workers : ℕ) → edits (opening_of tables at scripts workers) ≡ []
unfolding enter
no_edits tables at scripts workers = none_edited (range_with_len 1 (actors (length scripts) workers))

no_tasks : (tables : Tables) (at : ℕ) (scripts : List (List Task)) (workers planner : ℕ)
    → done_by (opening_of tables at scripts workers) planner ≡ []
unfolding enter done_by
no_tasks tables at scripts workers planner = none_done (range_with_len 1 (actors (length scripts) workers)) planner

opening_tables : (tables : Tables) (at : ℕ) (scripts : List (List Task)) (workers : ℕ)
    → tables_of (opening_of tables at scripts workers) ≡ tables
unfolding tables_of
opening_tables tables at scripts workers = ap (after_edits tables) (no_edits tables at scripts workers)

-- ---- the others

-- the edits that planners do after the opening are those of the scripts
edits_done : (tables : Tables) (at : ℕ) (scripts : List (List Task)) (workers : ℕ) (journal rest : List Entry)
    → journal ≡ opening_of tables at scripts workers ++ rest
    → map (done_by journal) (range_with_len 1 (length scripts)) ≡ scripts
    → edits_by_all (length scripts) rest ≡ edits_in scripts
edits_done tables at scripts workers journal rest is done =
    let same : (p : ℕ) → done_by rest p ≡ done_by journal p = λ p.
    sym (ap (λ j. done_by j p) is ∙ done_by-more (opening_of tables at scripts workers) rest p
    ∙ ap (λ ts. ts ++ done_by rest p) (no_tasks tables at scripts workers p)) in
    ap (λ (f : ℕ → List Task). flat_map (λ p. filter_map edit_in (f p)) (range_with_len 1 (length scripts))) (λ i p. same p i)
    ∙ sym (flat_map-map (filter_map edit_in) (done_by journal) (range_with_len 1 (length scripts)))
    ∙ ap edits_in done

-- tables of the made line with some runs later
abbrev HasLater : ℕ → Tables → Type 0
HasLater n tables = (count : ℕ → ℕ) × (tables ≡ where_counted n count)

change_accepted : (n : ℕ) (tables : Tables) (e : Edit) → MakesLater n e → HasLater n tables
    → (rule_of tables e ≡ None) × HasLater n (after tables e)
change_accepted n tables e h (count, is) =
    let one = makes_one_later n count e h in (
      ap (λ t. rule_of t e) is ∙ one.0,
      ((λ i. and_times i (count i) e), ap (λ t. after t e) is ∙ one.1),
    )

pub each_session_makes_all : EachSessionMakesAll
each_session_makes_all n at workers journal h =
    let tables = base_tables n in
    let scripts = scripts_of_made n in
    let first = opening_of tables at scripts workers in
    let some : 0 < length first = omega arith in
    let done = edits_done tables at scripts workers journal h.rest h.is h.done in
    let same_edits : edits journal ≡ edits h.rest =
    ap edits h.is ∙ edits-more first h.rest ∙ ap (λ es. es ++ edits h.rest) (no_edits tables at scripts workers) in
    let same_tables : tables_of journal ≡ after_edits tables (edits journal) =
    ap tables_of h.is ∙ tables_of-more first h.rest some
    ∙ ap (λ t. after_edits t (edits h.rest)) (opening_tables tables at scripts workers)
    ∙ ap (after_edits tables) (sym same_edits) in
    let start : HasLater n (tables_of first) = ((λ i. 0), opening_tables tables at scripts workers ∙ sym (none_is_later n)) in
    let made = each_is_made (HasLater n) (MakesLater n) (change_accepted n) (length scripts) workers first h.rest some start
    (legal_later first h.rest some (subst IsLegal h.is h.legal)) h.made
    (subst (All (MakesLater n)) (sym done) (each_makes_later n)) in
    let each_once : IsPermutation (edits_in scripts) (edits journal) =
    subst (λ es. IsPermutation es (edits journal)) done (subst (IsPermutation (edits_by_all (length scripts) h.rest)) (sym same_edits) made) in
    record {
      each_once = each_once;
      count = how_many n (edits journal) each_once;
      tables = same_tables ∙ (any_order_makes_one n (edits journal) each_once).after;
    }
