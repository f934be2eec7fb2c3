-- What a longer journal says, and what the journal says that it begins with.
use Rattle.std.proofs.Common.{◌≡◌, ℕ, cond, ◌+◌, ◌-◌, ◌<◌, ◌≤◌, List, [], ◌∷◌, ◌++◌, length, Option, Some, None, refl, arith, length-append}
use Rattle.std.specs.List.{last_or}
use Rattle.std.proofs.lemmas.List.{take-append-le, take_all, append-nil}
use Rattle.std.proofs.lemmas.List.Elements.{filter_map-append}
use Rattle.std.proofs.lemmas.List.Sums.{fold-append, sum_by-append}
use Rattle.rail_model.specs.Rules.{after_edits}
use Rattle.plan_model.specs.declared.journal.Entry.{Entry}
use Rattle.plan_model.specs.Journal.{opening, edit_of, edits, last_number, tables_at, tables_of, publication_of, publications, last_publication, issues, issued, task_of, done_by}
use Rattle.plan_model.specs.Legal.{cut_at, row_at}
use Rattle.plan_model.specs.JournalLaws.{LongerAgrees, OthersKeepTables, LongerIssuesNoFewer}

pub opening-more : (xs ys : List Entry) → 0 < length xs → opening (xs ++ ys) ≡ opening xs
opening-more [] ys some = absurd (omega (arith, some))
opening-more (e ∷ xs) ys some = refl

-- ---- edits and tables

pub edits-more : (xs ys : List Entry) → edits (xs ++ ys) ≡ edits xs ++ edits ys
edits-more xs ys = filter_map-append (λ e. edit_of e.act) xs ys

pub last_number-more : (xs ys : List Entry) → 0 < length xs
    → last_number (xs ++ ys) ≡ last_number xs + length (edits ys)
unfolding last_number
last_number-more xs ys some =
    rw (opening-more xs ys some, edits-more xs ys, length-append (edits xs) (edits ys)) (omega arith)

pub tables_at-more : (xs ys : List Entry) (number : ℕ) → 0 < length xs → number ≤ last_number xs
    → tables_at (xs ++ ys) number ≡ tables_at xs number
unfolding last_number tables_at
tables_at-more xs ys number some within =
    rw (opening-more xs ys some, edits-more xs ys, take-append-le (number - (opening xs).at) (edits xs) (edits ys) (omega (arith, within)))
    refl

-- from the last edit on these are the tables after all edits
pub tables_at-past : (xs : List Entry) (number : ℕ) → last_number xs ≤ number → tables_at xs number ≡ tables_of xs
unfolding last_number tables_at tables_of
tables_at-past xs number past =
    rw (take_all (number - (opening xs).at) (edits xs) (omega (arith, past))) refl

pub tables_of-more : (xs ys : List Entry) → 0 < length xs → tables_of (xs ++ ys) ≡ after_edits (tables_of xs) (edits ys)
unfolding tables_of
tables_of-more xs ys some = rw (opening-more xs ys some, edits-more xs ys) (fold-append _ _ (edits xs) (edits ys))

pub cut_at-more : (xs ys : List Entry) (section : List ℕ) (number : ℕ) → 0 < length xs → number ≤ last_number xs
    → cut_at (xs ++ ys) section number ≡ cut_at xs section number
unfolding cut_at
cut_at-more xs ys section number some within = rw (tables_at-more xs ys number some within) refl

pub row_at-more : (xs ys : List Entry) (section run : List ℕ) (number : ℕ) → 0 < length xs → number ≤ last_number xs
    → row_at (xs ++ ys) section run number ≡ row_at xs section run number
unfolding row_at
row_at-more xs ys section run number some within = rw (cut_at-more xs ys section number some within) refl

pub longer_agrees : LongerAgrees
longer_agrees xs ys some = record {
  tables = λ number within. tables_at-more xs ys number some within;
  cuts = λ section number within. cut_at-more xs ys section number some within;
}

-- ---- entries that make no edit

tables_at-others : (xs ys : List Entry) (number : ℕ) → 0 < length xs → edits ys ≡ []
    → tables_at (xs ++ ys) number ≡ tables_at xs number
unfolding tables_at
tables_at-others xs ys number some none =
    rw (opening-more xs ys some, edits-more xs ys, none, append-nil (edits xs)) refl

cut_at-others : (xs ys : List Entry) (section : List ℕ) (number : ℕ) → 0 < length xs → edits ys ≡ []
    → cut_at (xs ++ ys) section number ≡ cut_at xs section number
unfolding cut_at
cut_at-others xs ys section number some none = rw (tables_at-others xs ys number some none) refl

pub others_keep_tables : OthersKeepTables
others_keep_tables xs ys some none = record {
  number = rw (last_number-more xs ys some, none) (omega arith);
  tables = rw (tables_of-more xs ys some, none) refl;
  cuts = λ section number. cut_at-others xs ys section number some none;
}

-- ---- passes, publications and tasks

pub longer_issues_no_fewer : LongerIssuesNoFewer
unfolding issued
longer_issues_no_fewer xs ys = rw (sum_by-append (λ e. cond (issues e.act) 1 0) xs ys) (omega arith)

pub last_or-append : {X : Type 0} (o : Option X) (xs ys : List X) → last_or o (xs ++ ys) ≡ last_or (last_or o xs) ys
last_or-append o [] ys = refl
last_or-append o (x ∷ xs) ys = last_or-append (Some x) xs ys

pub last_publication-more : (xs ys : List Entry) (section : List ℕ)
    → last_publication (xs ++ ys) section
    ≡ last_or (last_publication xs section) (publications ys section)
unfolding last_publication
last_publication-more xs ys section =
    rw (filter_map-append (λ e. publication_of section e.act) xs ys)
    (last_or-append None (publications xs section) (publications ys section))

pub done_by-more : (xs ys : List Entry) (planner : ℕ) → done_by (xs ++ ys) planner ≡ done_by xs planner ++ done_by ys planner
unfolding done_by
done_by-more xs ys planner = filter_map-append (λ e. task_of planner e.act) xs ys

-- as many passes as either issues, pass 0 once
pub issued-more : (xs ys : List Entry) → issued (xs ++ ys) + 1 ≡ issued xs + issued ys
unfolding issued
issued-more xs ys = rw (sum_by-append (λ e. cond (issues e.act) 1 0) xs ys) (omega arith)
