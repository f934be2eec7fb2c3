-- What a book keeps when it is started.
use Rattle.std.proofs.Common.{◌≡◌, ℕ, ◌+◌, ◌≤◌, List, [], ◌∷◌, ◌++◌, Bool, length, get_or, replicate, Option, Some, None, refl, sym, ap, ◌∙◌, subst, inl, inr, arith}
use Rattle.std.specs.Prelude.{find, filter, unwrap_or, option_map, All, IfSome, sum_by}
use Rattle.std.proofs.lemmas.List.{length-replicate}
use Rattle.std.proofs.lemmas.Bool.{cases_Bool}
use Rattle.std.proofs.lemmas.List.Elements.{All-head, All-tail, All-map, All-replicate}
use Rattle.std.proofs.lemmas.Simd.{map-map}
use Rattle.rail_model.specs.declared.items.Section.{Section}
use Rattle.rail_model.specs.declared.tables.Tables.{Tables}
use Rattle.rail_model.specs.Name.{is_same, IsBefore, NamesRise}
use Rattle.rail_model.specs.Rules.{IsSound}
use Rattle.rail_model.proofs.Lists.{find-map, AllPairs-map}
use Rattle.plan_model.specs.declared.scripts.Task.{Task}
use Rattle.plan_model.specs.declared.journal.Entry.{Entry}
use Rattle.plan_model.specs.Cut.{stamped, stamped_row, IsSoundCut, is_member, row_of, section_cut, cut_of}
use Rattle.plan_model.specs.Session.{opened}
use Rattle.plan_model.specs.Journal.{last_number, tables_of, issued, last_publication, done_by, planners as planners_of, script_of}
use Rattle.plan_model.specs.Legal.{IsLastChange, cut_at, row_at, cut_now, IsStamp}
use Rattle.plan_model.proofs.Changing.{stays_at}
use Rattle.plan_model.proofs.Growing.{tables_at-past}
use Rattle.plan_book.specs.declared.book.TheConstants.{PLANNERS, TASKS, FIRST_NUMBER}
use Rattle.plan_book.specs.declared.shelf.Shelf.{Shelf}
use Rattle.plan_book.specs.Shelves.{blank, kept_cut, IsShelf, AreShelves}
use Rattle.plan_book.specs.First.{first_shelf, AreFirst}
use Rattle.plan_book.specs.Kept.{IsBook}

-- what holds of all items holds of the one that is found
pub found_of_all : {X : Type 0} (P : X → Type 0) (p : X → Bool) (xs : List X) → All P xs → IfSome (find p xs) P
found_of_all P p [] h = tt
found_of_all P p (x ∷ xs) h =
    elim (cases_Bool (p x)) [
      | inl e ↦ rw e (All-head P x xs h)
      | inr e ↦ rw e (found_of_all P p xs (All-tail P x xs h))
    ]

module _ (tables : Tables) (at : ℕ) (scripts : List (List Task)) where
  abbrev journal : List Entry
  journal = opened tables at scripts ∷ []

  last_is : last_number journal ≡ at
  unfolding last_number
  last_is = omega arith

  tables_are : tables_of journal ≡ tables
  unfolding tables_of
  tables_are = refl

  one_pass : issued journal ≡ 1
  unfolding issued
  one_pass = refl

  none_published : (name : List ℕ) → last_publication journal name ≡ None
  unfolding last_publication
  none_published name = refl

  none_done : (planner : ℕ) → done_by journal planner ≡ []
  unfolding done_by
  none_done planner = refl

  cut_is : (name : List ℕ) → cut_now journal name ≡ cut_of tables name
  unfolding cut_at
  cut_is name = rw (tables_at-past journal (last_number journal) (omega arith), tables_are) refl

  -- nothing has changed since the opening
  untouched : {X : Type 0} (value : ℕ → X) → IsLastChange value at (last_number journal) at
  untouched value =
      rw last_is (record { from_first = omega arith; to_last = omega arith; changes = inl refl; stays = stays_at value at })

  -- the value of a section's cut, whatever its stamps
  bare : (s : Section) → section_cut tables s ≡ stamped 0 (stamped at (section_cut tables s))
  bare s =
      let rows = (section_cut tables s).rows in
      ap (λ rows. record (section_cut tables s) { rows = rows })
      (sym (map-map (stamped_row 0) (stamped_row at) rows ∙ map-map (stamped_row 0) (row_of tables s) (filter (is_member tables s) tables.runs)))

  each_of : (name : List ℕ) (o : Option Section) → find (λ s. is_same s.name name) tables.sections ≡ o
      → IfSome (option_map (first_shelf tables at) o) (λ s. IfSome (kept_cut s) IsSoundCut)
      → IsShelf journal name (unwrap_or (option_map (first_shelf tables at) o) (blank at name))
  each_of name None found sound = record {
    touched = untouched (cut_at journal name);
    published = none_published name;
    cut = record { value = cut_is name ∙ ap (option_map (section_cut tables)) found; stamps = tt; sound = tt };
  }
  each_of name (Some s) found sound = record {
    touched = untouched (cut_at journal name);
    published = none_published name;
    cut = record {
      value = cut_is name ∙ ap (option_map (section_cut tables)) found ∙ ap Some (bare s);
      stamps =
          All-map (IsStamp journal name) (stamped_row at) (section_cut tables s).rows
          (λ k d below. untouched (row_at journal name (get_or (section_cut tables s).rows k d).name));
      sound = sound;
    };
  }

  pub shelves_first : (shelves : List Shelf) → IsSound tables → AreFirst tables at shelves → AreShelves journal at shelves
  shelves_first shelves sound are = record {
    rise =
        subst (NamesRise (λ (s : Shelf). s.name)) (sym are.same)
        (AllPairs-map (first_shelf tables at) (λ a b. IsBefore a.name b.name) tables.sections sound.sections.names);
    each = λ name.
        let found : find (λ x. is_same x.name name) shelves ≡ option_map (first_shelf tables at) (find (λ s. is_same s.name name) tables.sections) =
        ap (find (λ x. is_same x.name name)) are.same ∙ find-map (first_shelf tables at) (λ x. is_same x.name name) tables.sections in
        let known = subst (λ o. IfSome o (λ s. IfSome (kept_cut s) IsSoundCut)) found
        (found_of_all (λ (s : Shelf). IfSome (kept_cut s) IsSoundCut) (λ x. is_same x.name name) shelves are.sound) in
        subst (λ o. IsShelf journal name (unwrap_or o (blank at name))) (sym found)
        (each_of name (find (λ s. is_same s.name name) tables.sections) refl known);
  }

  pub book_first : (shelves : List Shelf) (done : List ℕ) → IsSound tables → length scripts ≤ PLANNERS → sum_by length scripts ≤ TASKS → at ≤ FIRST_NUMBER
      → AreFirst tables at shelves → done ≡ replicate (length scripts) 0 → IsBook journal tables at at 1 shelves done
  book_first shelves done sound planners tasks small are zeros = record {
    is_journal = record {
      legal = (refl, sound, tt);
      scripts = λ k d l.
          let p = get_or (planners_of journal) k d in
          (script_of journal p, ap (λ ts. ts ++ script_of journal p) (sym (none_done p)));
    };
    within = record { planners = planners; tasks = tasks; at = small };
    tables_are = sym tables_are;
    first_is = refl;
    at_is = sym last_is;
    passes_are = sym one_pass;
    shelves_are = shelves_first shelves sound are;
    done_are = record {
      count = rw zeros (length-replicate (length scripts) 0);
      each = λ k l.
          ap (λ (ns : List ℕ). get_or ns k 0) zeros
          ∙ All-replicate (λ n. n ≡ 0) (length scripts) 0 refl k 0 (omega (arith, l, ap length zeros))
          ∙ ap length (sym (none_done (k + 1)));
    };
  }
