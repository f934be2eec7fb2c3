-- The edits that a journal's planners make: where no rule refuses one, the journal has each of them once.
use Rattle.std.proofs.Common.{◌≡◌, ◌⊎◌, ℕ, zero, suc, ◌+◌, ◌<◌, ◌≤◌, eqb, Bool, true, false, if◌then◌else◌, List, [], ◌∷◌, ◌++◌, length, Some, None, inl, inr, refl, sym, ap, subst, ◌∙◌, arith, length-append}
use Rattle.std.specs.Prelude.{All, filter_map}
use Rattle.std.specs.List.{cons_option, flat_map, range_with_len}
use Rattle.std.specs.List.Sorted.{IsPermutation}
use Rattle.std.proofs.lemmas.Bool.{cases_order, eq-eqb}
use Rattle.std.proofs.lemmas.Bool.Decides.{nat_tests}
use Rattle.std.proofs.lemmas.List.Elements.{All-head, All-tail}
use Rattle.std.proofs.lemmas.List.Sorted.{IsPermutation-refl, IsPermutation-cons, IsPermutation-trans, IsPermutation-append_right, IsPermutation-middle, All-permutation}
use Rattle.rail_model.specs.declared.edit.Edit.{Edit}
use Rattle.rail_model.specs.declared.edit.Rule.{Rule}
use Rattle.rail_model.specs.declared.tables.Tables.{Tables}
use Rattle.rail_model.specs.Rules.{after, rule_of, after_edits}
use Rattle.plan_model.specs.declared.scripts.Task.{Task}
use Rattle.plan_model.specs.declared.scripts.Task.TheVariants as task
use Rattle.plan_model.specs.declared.journal.Act.{Act}
use Rattle.plan_model.specs.declared.journal.Act.TheVariants as act
use Rattle.plan_model.specs.declared.journal.Entry.{Entry}
use Rattle.plan_model.specs.Journal.{edit_of, edits, tables_of, task_of, done_by}
use Rattle.plan_model.specs.Legal.{MayFollow, AllFollow}
use Rattle.plan_model.specs.Session.{IsMade}
use Rattle.plan_model.proofs.Growing.{tables_of-more}
use Rattle.made_line.specs.Later.{edit_in}

-- the edits among the tasks that a planner has done, made or refused; and those of the first planners
abbrev edits_by : List Entry → ℕ → List Edit
edits_by entries planner = filter_map edit_in (done_by entries planner)

abbrev pub edits_by_all : ℕ → List Entry → List Edit
edits_by_all planners entries = flat_map (edits_by entries) (range_with_len 1 planners)

-- ---- one planner does one edit more

module _ (edits_of : ℕ → List Edit) (by : ℕ) (e : Edit) where
  abbrev with_one : ℕ → List Edit
  with_one planner = if eqb by planner then e ∷ edits_of planner else edits_of planner

  by_none : (first count : ℕ) → by < first → flat_map with_one (range_with_len first count) ≡ flat_map edits_of (range_with_len first count)
  by_none first zero before = refl
  by_none first (suc count) before =
      let other : eqb by first ≡ false = grind (arith, nat_tests) in
      rw other (ap (λ rest. edits_of first ++ rest) (by_none (first + 1) count (omega (arith, before))))

  by_one : (first count : ℕ) → first ≤ by → by < first + count
      → IsPermutation (flat_map with_one (range_with_len first count)) (e ∷ flat_map edits_of (range_with_len first count))
  by_one first zero from to = absurd (omega (arith, from, to))
  by_one first (suc count) from to =
      let rest = flat_map edits_of (range_with_len (first + 1) count) in
      elim (cases_order by first) [
        | inl same ↦
            rw (eq-eqb by first same, by_none (first + 1) count (omega (arith, same)))
            (IsPermutation-refl (e ∷ edits_of first ++ rest))
        | inr o ↦
            let later : first + 1 ≤ by = elim o [ inl lt ↦ absurd (omega (arith, lt, from)) | inr gt ↦ omega (arith, gt) ] in
            let other : eqb by first ≡ false = grind (arith, nat_tests) in
            rw other
            (IsPermutation-trans (edits_of first ++ flat_map with_one (range_with_len (first + 1) count)) (edits_of first ++ e ∷ rest) (e ∷ edits_of first ++ rest)
            (IsPermutation-append_right (edits_of first) (flat_map with_one (range_with_len (first + 1) count)) (e ∷ rest)
            (by_one (first + 1) count later (omega (arith, to))))
            (IsPermutation-middle (edits_of first) e rest))
      ]

-- ---- what an act does

-- an act neither makes an edit nor does a planner's
record Other (a : Act) : Type 0 where
  none : edit_of a ≡ None
  tasks : (planner : ℕ) (ts : List Task) → filter_map edit_in (cons_option (task_of planner a) ts) ≡ filter_map edit_in ts

-- an act does an edit of a planner: it is made, or a rule refuses it
record DoesEdit (planners : ℕ) (journal : List Entry) (a : Act) : Type 0 where
  by : ℕ
  from_one : 1 ≤ by
  to_last : by ≤ planners
  edit : Edit
  is : (planner : ℕ) → task_of planner a ≡ (if eqb by planner then Some (task.Edit edit) else None)
  way : (edit_of a ≡ Some edit) ⊎ ((rule : Rule) × (rule_of (tables_of journal) edit ≡ Some rule))

no_edit : (b : Bool) (section : List ℕ) (ts : List Task)
    → filter_map edit_in (cons_option (if b then Some (task.Ask section) else None) ts) ≡ filter_map edit_in ts
no_edit true section ts = refl
no_edit false section ts = refl

one_edit : (b : Bool) (e : Edit) (ts : List Task)
    → filter_map edit_in (cons_option (if b then Some (task.Edit e) else None) ts)
    ≡ (if b then e ∷ filter_map edit_in ts else filter_map edit_in ts)
one_edit true e ts = refl
one_edit false e ts = refl

does : (planners workers : ℕ) (journal : List Entry) (pass : ℕ) (a : Act) → IsMade planners workers pass a → MayFollow journal a
    → Other a ⊎ DoesEdit planners journal a
does planners workers journal pass (act.Opened tables at scripts) made follows = absurd made
does planners workers journal pass (act.Entered number) made follows = absurd made
does planners workers journal pass (act.Edited planner at e) made follows =
    inr (record { by = planner; from_one = made.from_one; to_last = made.to_last; edit = e; is = λ p. refl; way = inl refl })
does planners workers journal pass (act.Refused planner rule e) made follows =
    inr (record { by = planner; from_one = made.from_one; to_last = made.to_last; edit = e; is = λ p. refl; way = inr (rule, follows) })
does planners workers journal pass (act.Asked planner section reply) made follows =
    inl (record { none = refl; tasks = λ p ts. no_edit (eqb planner p) section ts })
does planners workers journal pass (act.Published section at answer) made follows =
    inl (record { none = refl; tasks = λ p ts. refl })

others_do_none : (planners : ℕ) (e : Entry) (later : List Entry) → Other e.act → edits_by_all planners (e ∷ later) ≡ edits_by_all planners later
unfolding done_by
others_do_none planners e later other =
    ap (λ f. flat_map f (range_with_len 1 planners)) (λ i p. other.tasks p (filter_map (λ e. task_of p e.act) later) i)

one_more_done : (planners : ℕ) (journal : List Entry) (e : Entry) (later : List Entry) (does_edit : DoesEdit planners journal e.act)
    → IsPermutation (edits_by_all planners (e ∷ later)) (does_edit.edit ∷ edits_by_all planners later)
unfolding done_by
one_more_done planners journal e later one =
    let tasks = λ (p : ℕ). filter_map (λ (x : Entry). task_of p x.act) later in
    let same : (p : ℕ) → edits_by (e ∷ later) p ≡ with_one (edits_by later) one.by one.edit p = λ p.
    ap (λ o. filter_map edit_in (cons_option o (tasks p))) (one.is p) ∙ one_edit (eqb one.by p) one.edit (tasks p) in
    subst (λ f. IsPermutation (flat_map f (range_with_len 1 planners)) (one.edit ∷ edits_by_all planners later)) (sym (λ i p. same p i))
    (by_one (edits_by later) one.by one.edit 1 planners one.from_one (omega (arith, one.to_last)))

no_entries : (first count : ℕ) → flat_map (edits_by []) (range_with_len first count) ≡ []
unfolding done_by
no_entries first zero = refl
no_entries first (suc count) = no_entries (first + 1) count

-- ---- along a journal

-- where an edit of a kind is accepted in tables of a kind and leaves such tables again, all such edits are made
module _ (OfTables : Tables → Type 0) (OfEdits : Edit → Type 0) (accepted : (t : Tables) (e : Edit) → OfEdits e → OfTables t → (rule_of t e ≡ None) × OfTables (after t e)) (planners workers : ℕ) where
  pub each_is_made : (before rest : List Entry) → 0 < length before → OfTables (tables_of before) → AllFollow before rest
      → All (λ e. IsMade planners workers e.pass e.act) rest → All OfEdits (edits_by_all planners rest)
      → IsPermutation (edits_by_all planners rest) (edits rest)
  each_is_made before [] some at follow made all =
      let none : edits_by_all planners [] ≡ [] = no_entries 1 planners in
      subst (λ es. IsPermutation es []) (sym none) (IsPermutation-refl [])
  each_is_made before (e ∷ later) some at follow made all =
      let some_more : 0 < length (before ++ e ∷ []) = omega (arith, length-append before (e ∷ [])) in
      let step = does planners workers before e.pass e.act (All-head (λ e. IsMade planners workers e.pass e.act) e later made) follow.0.follows in
      let later_made = All-tail (λ e. IsMade planners workers e.pass e.act) e later made in
      let next = tables_of-more before (e ∷ []) some in
      elim step [
        | inl other ↦
            let same = others_do_none planners e later other in
            subst (λ es. IsPermutation es (edits (e ∷ later))) (sym same)
            (rw (other.none)
            (each_is_made (before ++ e ∷ []) later some_more (subst OfTables (sym (next ∙ ap (λ o. after_edits (tables_of before) (cons_option o [])) other.none)) at)
            follow.1 later_made (subst (All OfEdits) same all)))
        | inr one ↦
            let same = one_more_done planners before e later one in
            let both = All-permutation OfEdits (edits_by_all planners (e ∷ later)) (one.edit ∷ edits_by_all planners later) same all in
            let fine = accepted (tables_of before) one.edit (All-head OfEdits one.edit (edits_by_all planners later) both) at in
            elim (one.way) [
              | inl is ↦
                  IsPermutation-trans (edits_by_all planners (e ∷ later)) (one.edit ∷ edits_by_all planners later) (edits (e ∷ later)) same
                  (rw is
                  (IsPermutation-cons one.edit (edits_by_all planners later) (edits later)
                  (each_is_made (before ++ e ∷ []) later some_more (subst OfTables (sym (next ∙ ap (λ o. after_edits (tables_of before) (cons_option o [])) is)) fine.1)
                  follow.1 later_made (All-tail OfEdits one.edit (edits_by_all planners later) both))))
              | inr refused ↦ absurd (let e : None ≡ Some refused.0 = sym fine.0 ∙ refused.1 in cc)
            ]
      ]
