-- The start of a session: what stands in the journal once all passes are drawn, and actors that have done nothing yet.
use Rattle.std.proofs.Common.{◌≡◌, ℕ, ◌+◌, ◌<◌, ◌≤◌, false, List, [], ◌∷◌, ◌++◌, length, refl, sym, ap, ◌∙◌, subst, arith, length-append}
use Rattle.std.specs.Prelude.{All}
use Rattle.std.proofs.lemmas.List.Elements.{All-cons, All-map}
use Rattle.std.specs.List.{range_with_len}
use Rattle.rail_model.specs.declared.tables.Tables.{Tables}
use Rattle.plan_model.specs.declared.scripts.Task.{Task}
use Rattle.plan_model.specs.declared.journal.Act.TheVariants as act
use Rattle.plan_model.specs.declared.journal.Entry.{Entry}
use Rattle.plan_model.specs.Journal.{issued}
use Rattle.plan_model.specs.Legal.{IsLegal, IsJournal}
use Rattle.plan_model.specs.Session.{opened, entered}
use Rattle.plan_model.specs.Board.{Access}
use Rattle.plan_model.proofs.Legality.{front_is_legal}
use Rattle.turn_desk.specs.Journal.{GoesOn}
use Rattle.turn_desk.specs.Entering.{EntersAll, EntersNone}
use Rattle.turn_desk.specs.Known.{Known, TableId, new_pass, new_passes}
use Rattle.session_run.specs.Actors.{Role, IsAble, IsAtWork}
use Rattle.session_run.proofs.Entered.{pass_of, issues_none, entering, nothing_between, all_enter}

-- all passes are drawn
pub record HasEntered (tables : Tables) (at : ℕ) (scripts : List (List Task)) (desk : TableId) (new : Known Entry) (count : ℕ) (given : List (Known Entry)) : Type 0 where
  pub seen : new.seen ≡ opened tables at scripts ∷ entered count
  pub issued_now : issued new.seen ≡ count + 1
  pub passes : given ≡ new_passes desk new.seen 1 count

-- ---- what entering gives

module _ (tables : Tables) (at : ℕ) (scripts : List (List Task)) (book : List Entry) (desk : TableId) (old new : Known Entry) (count : ℕ)
    (legal : IsLegal new.seen) (is : book ≡ opened tables at scripts ∷ []) (old_is : old ≡ new_pass desk 0 book) where
  abbrev o : Entry
  o = opened tables at scripts

  old_now : old ≡ new_pass desk 0 (o ∷ [])
  old_now = old_is ∙ ap (new_pass desk 0) is

  first_issued : issued (o ∷ []) ≡ 1
  first_issued = issues_none o refl

  found_is : (found own : List Entry) → GoesOn pass_of (0 ∷ []) (o ∷ []) found → new.seen ≡ found ++ own → found ≡ o ∷ []
  found_is found own g is =
      let some : 0 < length found = omega (arith, ap length g.is, length-append (o ∷ []) g.more) in
      nothing_between o found first_issued (front_is_legal found own some (subst IsLegal is legal)) g

  -- room is left for few passes
  pub not_full : count ≤ 32 → EntersNone pass_of issued old new count → ⊥
  not_full few none =
      let h = subst (λ k. EntersNone pass_of issued k new count) old_now none in
      let same : new.seen ≡ o ∷ [] = nothing_between o new.seen first_issued legal h.goes_on in
      omega (arith, h.full, ap issued same, first_issued, few)

  pub has_entered : (given : List (Known Entry)) → EntersAll pass_of issued old new count given
      → HasEntered tables at scripts desk new count given
  has_entered given all =
      let h = subst (λ k. EntersAll pass_of issued k new count given) old_now all in
      let found = h.call.found in
      let own = h.call.adds_own.own in
      let is : found ≡ o ∷ [] = found_is found own h.call.goes_on h.call.adds_own.is in
      let first : issued found ≡ 1 = ap issued is ∙ first_issued in
      let some : 0 < length found = omega (arith, ap length is) in
      let made = all_enter found own some (subst IsLegal h.call.adds_own.is legal) h.call.adds_own.made
      (ap issued (sym h.call.adds_own.is) ∙ h.issued ∙ ap (λ n. issued found + n) (sym h.many)) in
      record {
        seen = h.call.adds_own.is ∙ (λ k. is k ++ made k) ∙ (λ k. o ∷ entering (first k) (h.many k));
        issued_now = omega (arith, h.issued, first);
        passes = h.passes ∙ ap (λ n. new_passes desk new.seen n count) first;
      }

-- all that stands there is by pass 0
pub all_by_main : (tables : Tables) (at : ℕ) (scripts : List (List Task)) (count : ℕ)
    → All (λ e. e.pass ≡ 0) (opened tables at scripts ∷ entered count)
all_by_main tables at scripts count =
    All-cons (λ e. e.pass ≡ 0) (opened tables at scripts) (entered count) refl
    (All-map (λ e. e.pass ≡ 0) (λ number. record { pass = 0; act = act.Entered number }) (range_with_len 1 count) (λ k d l. refl))

-- an actor with a new pass is at work
pub fresh_at_work : (role : Role) (number : ℕ) (access : Access) → 1 ≤ number → access.pass ≡ number → access.numbers ≡ number ∷ []
    → IsJournal access.seen → All (λ e. e.pass ≡ 0) access.seen → IsAble role access.seen → IsAtWork role false access
fresh_at_work role number access from pass numbers journal by_main able = record {
  own = numbers ∙ ap (λ n. n ∷ []) (sym pass);
  journal = journal;
  by = λ k d l same. absurd (omega (arith, by_main k d l, same, pass, from));
  able = able;
  finished = λ no. absurd (cc);
}
