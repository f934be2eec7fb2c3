-- Of two publications of one section, the later speaks of a later edit.
use Rattle.std.proofs.Common.{◌≡◌, ℕ, ◌<◌, List, [], ◌∷◌, ◌++◌, Option, Some, None, inl, inr, refl, sym, ◌∙◌, subst, arith, append_assoc}
use Rattle.std.specs.Prelude.{All, AllPairs}
use Rattle.std.specs.List.{last_or, cons_option}
use Rattle.std.proofs.lemmas.Bool.{cases_Bool, cases_lt}
use Rattle.std.proofs.lemmas.List.{append-nil}
use Rattle.std.proofs.lemmas.List.Elements.{All-nil, All-cons, All-push, All-weaker, filter_map-append}
use Rattle.rail_model.specs.Name.{is_same}
use Rattle.rail_model.proofs.Lists.{AllPairs-append}
use Rattle.rail_model.proofs.NameOrder.{same_name}
use Rattle.plan_model.specs.declared.journal.Act.{Act}
use Rattle.plan_model.specs.declared.journal.Act.TheVariants as act
use Rattle.plan_model.specs.declared.journal.Entry.{Entry}
use Rattle.plan_model.specs.Journal.{Publication, last_number, publication_of, publications, last_publication}
use Rattle.plan_model.specs.Legal.{cut_at, MayBePublished, MayFollow, IsNext, AllFollow}
use Rattle.plan_model.specs.JournalLaws.{PublicationsRise}
use Rattle.plan_model.proofs.Growing.{last_or-append}
use Rattle.plan_model.proofs.Changing.{stays_within}
use Rattle.plan_model.proofs.Touching.{same_one, opening_publishes_none}

abbrev IsEarlier : Publication → Publication → Type 0
IsEarlier p q = p.at < q.at

-- publications rise, and what comes after the last comes after all
record Rise (ps : List Publication) : Type 0 where
  pairs : AllPairs IsEarlier ps
  below : (n : ℕ) → ((p : Publication) → last_or None ps ≡ Some p → p.at < n) → All (λ p. p.at < n) ps

rise_none : Rise []
rise_none = record { pairs = λ i j d before below. absurd (omega arith); below = λ n last. All-nil (λ p. p.at < n) }

rise_push : (ps : List Publication) (q : Publication) → Rise ps
    → ((p : Publication) → last_or None ps ≡ Some p → p.at < q.at) → Rise (ps ++ q ∷ [])
rise_push ps q rise last =
    let before = rise.below q.at last in
    let alone : AllPairs IsEarlier (q ∷ []) = λ i j d before below. absurd (omega (arith, before, below)) in
    record {
      pairs =
          AllPairs-append IsEarlier ps (q ∷ []) rise.pairs alone
          (All-weaker (λ p. p.at < q.at) (λ p. All (IsEarlier p) (q ∷ []))
          (λ p less. All-cons (IsEarlier p) q [] less (All-nil (IsEarlier p))) ps before);
      below = λ n above.
          let less : q.at < n = above q (last_or-append None ps (q ∷ [])) in
          All-push (λ p. p.at < n) ps q
          (All-weaker (λ p. p.at < q.at) (λ p. p.at < n) (λ p l. omega (arith, l, less)) ps before) less;
    }

-- the publication of a section that an act may make may be made
publishes_may : (journal : List Entry) (section : List ℕ) (a : Act) (p : Publication) → MayFollow journal a
    → publication_of section a ≡ Some p → MayBePublished journal section p.at p.answer
publishes_may journal section (act.Opened tables at scripts) p h is = absurd h
publishes_may journal section (act.Entered number) p h is = absurd (cc)
publishes_may journal section (act.Edited planner at edit) p h is = absurd (cc)
publishes_may journal section (act.Refused planner rule edit) p h is = absurd (cc)
publishes_may journal section (act.Asked planner asked reply) p h is = absurd (cc)
publishes_may journal section (act.Published other at answer) p h is =
    elim (cases_Bool (is_same other section)) [
      | inl same ↦
          let q : Publication = record { at = at; answer = answer } in
          subst (λ q. MayBePublished journal section q.at q.answer) (same_one q p (sym (rw same refl) ∙ is))
          (subst (λ n. MayBePublished journal n at answer) (same_name other section same) h)
      | inr apart ↦ let none : None ≡ Some p = sym (rw apart refl) ∙ is in absurd (cc)
    ]

-- it speaks of a later edit than the last one, or the section would be current
later_at : (journal : List Entry) (section : List ℕ) (p q : Publication) → last_publication journal section ≡ Some p
    → MayBePublished journal section q.at q.answer → p.at < q.at
later_at journal section p q last may =
    elim (cases_lt p.at q.at) [
      | inl less ↦ less
      | inr before ↦
          absurd (may.wanted (record {
            publication = p;
            last = last;
            untouched = stays_within (cut_at journal section) q.at (last_number journal) p.at (last_number journal) may.untouched before (omega arith);
          }))
    ]

rise_by : (journal : List Entry) (e : Entry) (section : List ℕ) (o : Option Publication) → Rise (publications journal section)
    → IsNext journal e → publication_of section e.act ≡ o → Rise (publications journal section ++ cons_option o [])
unfolding last_publication
rise_by journal e section None rise next is = subst Rise (sym (append-nil (publications journal section))) rise
rise_by journal e section (Some q) rise next is =
    rise_push (publications journal section) q rise
    (λ p last. later_at journal section p q last (publishes_may journal section e.act q next.follows is))

rise_along : (journal later : List Entry) (section : List ℕ) → Rise (publications journal section) → AllFollow journal later
    → Rise (publications (journal ++ later) section)
rise_along journal [] section rise h = subst (λ j. Rise (publications j section)) (sym (append-nil journal)) rise
rise_along journal (e ∷ later) section rise h =
    let more = sym (filter_map-append (λ e. publication_of section e.act) journal (e ∷ [])) in
    subst (λ j. Rise (publications j section)) (append_assoc journal (e ∷ []) later)
    (rise_along (journal ++ e ∷ []) later section
    (subst Rise more (rise_by journal e section (publication_of section e.act) rise h.0 refl)) h.1)

pub publications_rise : PublicationsRise
publications_rise [] section h = absurd h
publications_rise (e ∷ later) section h =
    let first : publications (e ∷ []) section ≡ [] = rw (opening_publishes_none section e.act h.1) refl in
    (rise_along (e ∷ []) later section (subst Rise (sym first) rise_none) h.2).pairs
