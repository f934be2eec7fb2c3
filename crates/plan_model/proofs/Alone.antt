-- The journal of a session without workers is one: each entry is determined by those before it.
use Rattle.std.proofs.Common.{◌≡◌, ℕ, suc, ◌<◌, List, [], ◌∷◌, ◌++◌, length, Some, Result, Ok, Err, inl, inr, refl, sym, ap, ◌∙◌, subst, arith, append_assoc, length-append}
use Rattle.std.specs.Prelude.{All, find, zip, option_map}
use Rattle.std.proofs.lemmas.Bool.{cases_Bool}
use Rattle.std.proofs.lemmas.List.Elements.{All-nil, All-cons, All-head, All-tail, All-weaker}
use Rattle.rail_model.specs.declared.edit.Edit.{Edit}
use Rattle.rail_model.specs.declared.edit.Rule.{Rule}
use Rattle.rail_model.specs.declared.items.Section.{Section}
use Rattle.rail_model.specs.Name.{is_same, is_before, IsBefore, NamesRise}
use Rattle.rail_model.proofs.NameOrder.{same_name, is_same-after, IsBefore-from, IsBefore-trans, same_or_after}
use Rattle.plan_model.specs.declared.cut.Cut.{Cut}
use Rattle.plan_model.specs.declared.scripts.Task.{Task}
use Rattle.plan_model.specs.declared.scripts.Task.TheVariants as task
use Rattle.plan_model.specs.declared.journal.Act.{Act}
use Rattle.plan_model.specs.declared.journal.Act.TheVariants as act
use Rattle.plan_model.specs.declared.journal.Entry.{Entry}
use Rattle.plan_model.specs.declared.journal.Reply.{Reply}
use Rattle.plan_model.specs.Answer.{IsAnswer}
use Rattle.plan_model.specs.Cut.{section_cut}
use Rattle.plan_model.specs.Journal.{last_number, tables_at, edits, publications, task_of}
use Rattle.plan_model.specs.Legal.{Stays, cut_at, IsCurrent, MayBePublished, MayFollow, IsNext, AllFollow, IsLegal}
use Rattle.plan_model.specs.Session.{opened, IsMade, AllAreCurrent, IsPublicationAt, BringsUpToDate, tasks_in_turn, GoesInTurn}
use Rattle.plan_model.specs.JournalLaws.{SessionAloneIsOne}
use Rattle.plan_model.proofs.Growing.{others_keep_tables, tables_at-past, last_publication-more}
use Rattle.plan_model.proofs.Changing.{stays_too}
use Rattle.plan_model.proofs.Legality.{each_is_next, front_is_legal}
use Rattle.plan_model.proofs.Touching.{same_one, legal_later}
use Rattle.plan_model.proofs.Unique.{answer_is_unique}
use Rattle.plan_model.proofs.OneWay.{reply_one}
use Rattle.plan_model.proofs.Working.{of_planner}
use Rattle.plan_model.proofs.Parts.{all_first, all_last}

-- ---- entries that publish

-- by pass 0, sections of these names are published at the edit of one number
abbrev Publish : ℕ → List (List ℕ) → List Entry → Type 0
Publish at [] [] = Unit {0}
Publish at [] (e ∷ es) = ⊥
Publish at (n ∷ ns) [] = ⊥
Publish at (n ∷ ns) (e ∷ es) = (e.pass ≡ 0) × IsPublicationAt at n e × Publish at ns es

abbrev ByMain : List Entry → Type 0
ByMain es = All (λ e. e.pass ≡ 0) es

publish_from : (at : ℕ) (ns : List (List ℕ)) (es : List Entry) → length es ≡ length ns
    → All (λ (p : List ℕ × Entry). IsPublicationAt at p.0 p.1) (zip ns es) → ByMain es → Publish at ns es
publish_from at [] [] count each main = tt
publish_from at [] (e ∷ es) count each main = absurd (omega (arith, count))
publish_from at (n ∷ ns) [] count each main = absurd (omega (arith, count))
publish_from at (n ∷ ns) (e ∷ es) count each main = (
  All-head (λ e. e.pass ≡ 0) e es main,
  All-head (λ (p : List ℕ × Entry). IsPublicationAt at p.0 p.1) (n, e) (zip ns es) each,
  publish_from at ns es (omega (arith, count))
      (All-tail (λ (p : List ℕ × Entry). IsPublicationAt at p.0 p.1) (n, e) (zip ns es) each)
      (All-tail (λ e. e.pass ≡ 0) e es main),
)

no_edits : (at : ℕ) (ns : List (List ℕ)) (es : List Entry) → Publish at ns es → edits es ≡ []
no_edits at [] [] h = refl
no_edits at [] (e ∷ es) h = absurd h
no_edits at (n ∷ ns) [] h = absurd h
no_edits at (n ∷ ns) (e ∷ es) h = rw (h.1.is) (no_edits at ns es h.2)

-- a section whose name comes before all of these isn't among them
not_published : (name : List ℕ) (at : ℕ) (ns : List (List ℕ)) (es : List Entry) → Publish at ns es → All (IsBefore name) ns
    → publications es name ≡ []
not_published name at [] [] h before = refl
not_published name at [] (e ∷ es) h before = absurd h
not_published name at (n ∷ ns) [] h before = absurd h
not_published name at (n ∷ ns) (e ∷ es) h before =
    rw (h.1.is, is_same-after name n (All-head (IsBefore name) n ns before))
    (not_published name at ns es h.2 (All-tail (IsBefore name) n ns before))

-- ---- current

-- a section that is current after entries that neither edit nor publish it was so before
current_before : (journal es : List Entry) (name : List ℕ) → 0 < length journal → edits es ≡ [] → publications es name ≡ []
    → IsCurrent (journal ++ es) name → IsCurrent journal name
current_before journal es name some none others current =
    let keeps = others_keep_tables journal es some none in
    let same = last_publication-more journal es name in
    record {
      publication = current.publication;
      last = sym (rw others refl) ∙ sym same ∙ current.last;
      untouched =
          subst (λ n. Stays (cut_at journal name) current.publication.at n) keeps.number
          (stays_too (cut_at (journal ++ es) name) (cut_at journal name) current.publication.at (last_number (journal ++ es))
          (λ n within. sym (keeps.cuts name n)) current.untouched);
    }

-- what holds of each section holds of one that is found
holds_of_found : (P : List ℕ → Type 0) (name : List ℕ) (sections : List Section) (f : Section → Cut) (cut : Cut)
    → All (λ s. P s.name) sections → option_map f (find (λ s. is_same s.name name) sections) ≡ Some cut → P name
holds_of_found P name [] f cut all is = absurd (cc)
holds_of_found P name (s ∷ sections) f cut all is =
    elim (cases_Bool (is_same s.name name)) [
      | inl same ↦ subst P (same_name s.name name same) (All-head (λ s. P s.name) s sections all)
      | inr other ↦
          holds_of_found P name sections f cut (All-tail (λ s. P s.name) s sections all) (sym (rw other refl) ∙ is)
    ]

section_is_current : (journal es : List Entry) (name : List ℕ) (cut : Cut) → 0 < length journal → edits es ≡ []
    → cut_at journal name (last_number journal) ≡ Some cut → AllAreCurrent (journal ++ es) → IsCurrent (journal ++ es) name
unfolding cut_at
section_is_current journal es name cut some none there all =
    let tables = tables_at journal (last_number journal) in
    let same = (others_keep_tables journal es some none).tables
    ∙ sym (tables_at-past journal (last_number journal) (omega arith)) in
    holds_of_found (IsCurrent (journal ++ es)) name tables.sections (section_cut tables) cut
    (subst (λ t. All (λ s. IsCurrent (journal ++ es) s.name) t.sections) same all) there

-- ---- bringing up to date

-- what may be published next is among what brings a journal up to date
is_wanted : (journal : List Entry) (at : ℕ) (name : List ℕ) (e : Entry) (others : List (List ℕ)) (es : List Entry)
    → 0 < length journal → at ≡ last_number journal → IsNext journal e → IsPublicationAt at name e
    → Publish at others es → AllAreCurrent (journal ++ es) → All (IsBefore name) others → ⊥
is_wanted journal at name e others es some is next h k all before =
    let may : MayBePublished journal name at h.answer = subst (MayFollow journal) h.is next.follows in
    let there = subst (λ n. cut_at journal name n ≡ Some may.done.cut) is may.done.there in
    let none = no_edits at others es k in
    may.wanted (current_before journal es name some none (not_published name at others es k before)
    (section_is_current journal es name may.done.cut some none there all))

-- two publications of one section are equal
entry_one : (journal : List Entry) (at : ℕ) (name other : List ℕ) (e f : Entry) → name ≡ other → e.pass ≡ 0 → f.pass ≡ 0
    → IsPublicationAt at name e → IsPublicationAt at other f → IsNext journal e → IsNext journal f → e ≡ f
entry_one journal at name other e f names e_main f_main h k e_next f_next =
    let may : MayBePublished journal name at h.answer = subst (MayFollow journal) h.is e_next.follows in
    let also : MayBePublished journal name at k.answer =
    subst (λ n. MayBePublished journal n at k.answer) (sym names) (subst (MayFollow journal) k.is f_next.follows) in
    let cuts = same_one also.done.cut may.done.cut (sym also.done.there ∙ may.done.there) in
    let answers = answer_is_unique may.done.cut h.answer k.answer may.done.is_answer
    (subst (λ c. IsAnswer c k.answer) cuts also.done.is_answer) in
    let published : act.Published name at h.answer ≡ act.Published other at k.answer =
    λ i. act.Published (names i) at (answers i) in
    let acts = h.is ∙ published ∙ sym k.is in
    let passes = e_main ∙ sym f_main in
    λ i. record { pass = passes i; act = acts i }

first_before : (n : List ℕ) (ns : List (List ℕ)) → NamesRise (λ n. n) (n ∷ ns) → All (IsBefore n) ns
first_before n ns rise k d l = rise 0 (suc k) d (omega arith) (omega (arith, l))

others_rise : (n : List ℕ) (ns : List (List ℕ)) → NamesRise (λ n. n) (n ∷ ns) → NamesRise (λ n. n) ns
others_rise n ns rise i j d before below = rise (suc i) (suc j) d (omega (arith, before)) (omega (arith, below))

before_all : (n m : List ℕ) (ms : List (List ℕ)) → IsBefore n m → NamesRise (λ n. n) (m ∷ ms) → All (IsBefore n) (m ∷ ms)
before_all n m ms before rise =
    All-cons (IsBefore n) m ms before
    (All-weaker (IsBefore m) (IsBefore n) (λ x after. IsBefore-trans n m x before after) ms (first_before m ms rise))

publications_one : (journal : List Entry) (at : ℕ) (ns : List (List ℕ)) (es : List Entry) (ms : List (List ℕ)) (fs : List Entry)
    → 0 < length journal → at ≡ last_number journal → AllFollow journal es → AllFollow journal fs
    → Publish at ns es → Publish at ms fs → NamesRise (λ n. n) ns → NamesRise (λ n. n) ms
    → AllAreCurrent (journal ++ es) → AllAreCurrent (journal ++ fs) → es ≡ fs
publications_one journal at [] [] [] [] some is a b h k r s x y = refl
publications_one journal at [] [] [] (f ∷ fs) some is a b h k r s x y = absurd k
publications_one journal at [] [] (m ∷ ms) [] some is a b h k r s x y = absurd k
publications_one journal at [] [] (m ∷ ms) (f ∷ fs) some is a b h k r s x y =
    absurd (is_wanted journal at m f [] [] some is b.0 k.1 tt x (All-nil (IsBefore m)))
publications_one journal at [] (e ∷ es) ms fs some is a b h k r s x y = absurd h
publications_one journal at (n ∷ ns) [] ms fs some is a b h k r s x y = absurd h
publications_one journal at (n ∷ ns) (e ∷ es) [] [] some is a b h k r s x y =
    absurd (is_wanted journal at n e [] [] some is a.0 h.1 tt y (All-nil (IsBefore n)))
publications_one journal at (n ∷ ns) (e ∷ es) [] (f ∷ fs) some is a b h k r s x y = absurd k
publications_one journal at (n ∷ ns) (e ∷ es) (m ∷ ms) [] some is a b h k r s x y = absurd k
publications_one journal at (n ∷ ns) (e ∷ es) (m ∷ ms) (f ∷ fs) some is a b h k r s x y =
    elim (cases_Bool (is_before n m)) [
      | inl less ↦
          absurd (is_wanted journal at n e (m ∷ ms) (f ∷ fs) some is a.0 h.1 k y (before_all n m ms (IsBefore-from n m less) s))
      | inr rest ↦ elim (same_or_after n m rest) [
        | inr less ↦ absurd (is_wanted journal at m f (n ∷ ns) (e ∷ es) some is b.0 k.1 h x (before_all m n ns less r))
        | inl same ↦
            let first = entry_one journal at n m e f same h.0 k.0 h.1 k.1 a.0 b.0 in
            let more = journal ++ e ∷ [] in
            let number = (others_keep_tables journal (e ∷ []) some (no_edits at (n ∷ []) (e ∷ []) (h.0, h.1, tt))).number in
            let later = publications_one more at ns es ms fs (omega (arith, length-append journal (e ∷ []), some))
            (is ∙ sym number) a.1 (subst (λ f. AllFollow (journal ++ f ∷ []) fs) (sym first) b.1) h.2 k.2
            (others_rise n ns r) (others_rise m ms s) (subst AllAreCurrent (sym (append_assoc journal (e ∷ []) es)) x)
            (subst AllAreCurrent (sym (append_assoc journal (e ∷ []) fs)) (subst (λ f. AllAreCurrent (journal ++ f ∷ fs)) (sym first) y)) in
            λ i. first i ∷ later i
      ]
    ]

pub up_to_date_one : (journal es fs : List Entry) → 0 < length journal → IsLegal (journal ++ es) → IsLegal (journal ++ fs)
    → ByMain es → ByMain fs → BringsUpToDate journal es → BringsUpToDate journal fs → es ≡ fs
up_to_date_one journal es fs some es_legal fs_legal es_main fs_main h k =
    publications_one journal (last_number journal) h.names es k.names fs some refl (legal_later journal es some es_legal)
    (legal_later journal fs some fs_legal) (publish_from (last_number journal) h.names es h.count h.each es_main)
    (publish_from (last_number journal) k.names fs k.count k.each fs_main) h.rise k.rise h.current k.current

-- ---- tasks

-- an edit that is made, or refused
abbrev edited : ℕ → Edit → Result ℕ Rule → Act
edited planner edit (Ok at) = act.Edited planner at edit
edited planner edit (Err rule) = act.Refused planner rule edit

-- an act does this task of a planner
abbrev Does : ℕ → Task → Act → Type 0
Does planner (task.Edit edit) a = (r : Result ℕ Rule) × (a ≡ edited planner edit r)
Does planner (task.Ask section) a = (r : Reply) × (a ≡ act.Asked planner section r)

does : (planner : ℕ) (a : Act) (t : Task) → task_of planner a ≡ Some t → Does planner t a
does planner (act.Opened tables at scripts) t h = absurd (cc)
does planner (act.Entered number) t h = absurd (cc)
does planner (act.Edited by at edit) t h =
    let is = of_planner by planner (task.Edit edit) t h in
    subst (λ t. Does planner t (act.Edited by at edit)) is.1 (Ok at, ap (λ p. act.Edited p at edit) is.0)
does planner (act.Refused by rule edit) t h =
    let is = of_planner by planner (task.Edit edit) t h in
    subst (λ t. Does planner t (act.Refused by rule edit)) is.1 (Err rule, ap (λ p. act.Refused p rule edit) is.0)
does planner (act.Asked by section reply) t h =
    let is = of_planner by planner (task.Ask section) t h in
    subst (λ t. Does planner t (act.Asked by section reply)) is.1 (reply, ap (λ p. act.Asked p section reply) is.0)
does planner (act.Published section at answer) t h = absurd (cc)

result_one : (journal : List Entry) (planner : ℕ) (edit : Edit) (r s : Result ℕ Rule) → MayFollow journal (edited planner edit r)
    → MayFollow journal (edited planner edit s) → r ≡ s
result_one journal planner edit (Ok a) (Ok b) h k = rw (h.0, k.0) refl
result_one journal planner edit (Ok a) (Err rule) h k = absurd (let e = sym h.1 ∙ k in cc)
result_one journal planner edit (Err rule) (Ok b) h k = absurd (let e = sym k.1 ∙ h in cc)
result_one journal planner edit (Err rule) (Err other) h k = ap (λ r. Err r) (same_one rule other (sym h ∙ k))

act_one : (journal : List Entry) (planner : ℕ) (t : Task) (a b : Act) → IsLegal journal → MayFollow journal a → MayFollow journal b
    → Does planner t a → Does planner t b → a ≡ b
act_one journal planner (task.Edit edit) a b legal h k (r, is) (s, also) =
    is ∙ ap (edited planner edit) (result_one journal planner edit r s (subst (MayFollow journal) is h) (subst (MayFollow journal) also k))
    ∙ sym also
act_one journal planner (task.Ask section) a b legal h k (r, is) (s, also) =
    is ∙ ap (act.Asked planner section) (reply_one journal section r s legal (subst (MayFollow journal) is h) (subst (MayFollow journal) also k))
    ∙ sym also

-- ---- one turn

-- publications, the entry of a task and the entries after it, in a legal journal, by pass 0
record Turn (journal ps : List Entry) (e : Entry) (later : List Entry) : Type 0 where
  legal : IsLegal (journal ++ ps)
  next : IsNext (journal ++ ps) e
  on : IsLegal ((journal ++ ps ++ e ∷ []) ++ later)
  first_main : ByMain ps
  main : e.pass ≡ 0
  later_main : ByMain later

turn_of : (journal ps : List Entry) (e : Entry) (later : List Entry) → 0 < length journal → IsLegal (journal ++ (ps ++ e ∷ later))
    → ByMain (ps ++ e ∷ later) → Turn journal ps e later
turn_of journal ps e later some legal main =
    let some_more : 0 < length (journal ++ ps) = omega (arith, length-append journal ps, some) in
    let whole = subst IsLegal (sym (append_assoc journal ps (e ∷ later))) legal in
    let rest = all_last (λ e. e.pass ≡ 0) ps (e ∷ later) main in
    record {
      legal = front_is_legal (journal ++ ps) (e ∷ later) some_more whole;
      next = each_is_next (journal ++ ps) e later some_more whole;
      on = subst IsLegal (sym (append_assoc (journal ++ ps) (e ∷ []) later)) whole;
      first_main = all_first (λ e. e.pass ≡ 0) ps (e ∷ later) main;
      main = All-head (λ e. e.pass ≡ 0) e later rest;
      later_main = All-tail (λ e. e.pass ≡ 0) e later rest;
    }

turns_one : (tasks : List (ℕ × Task)) (journal rest other : List Entry) → 0 < length journal → IsLegal (journal ++ rest)
    → IsLegal (journal ++ other) → ByMain rest → ByMain other → GoesInTurn journal tasks rest → GoesInTurn journal tasks other
    → rest ≡ other
turns_one [] journal rest other some legal other_legal main other_main h k =
    up_to_date_one journal rest other some legal other_legal main other_main h k
turns_one ((planner, task) ∷ tasks) journal rest other some legal other_legal main other_main
    (ps, e, later, is, up, done, on) (qs, f, further, also, other_up, other_done, other_on) =
    let a = turn_of journal ps e later some (subst (λ r. IsLegal (journal ++ r)) is legal) (subst ByMain is main) in
    let b = turn_of journal qs f further some (subst (λ r. IsLegal (journal ++ r)) also other_legal) (subst ByMain also other_main) in
    let first = up_to_date_one journal ps qs some a.legal b.legal a.first_main b.first_main up other_up in
    let next = subst (λ x. IsNext (journal ++ x) f) (sym first) b.next in
    let acts = act_one (journal ++ ps) planner task e.act f.act a.legal a.next.follows next.follows
    (does planner e.act task done) (does planner f.act task other_done) in
    let passes = a.main ∙ sym b.main in
    let entry : e ≡ f = λ i. record { pass = passes i; act = acts i } in
    let same : journal ++ ps ++ e ∷ [] ≡ journal ++ qs ++ f ∷ [] = λ i. journal ++ first i ++ entry i ∷ [] in
    let rests = turns_one tasks (journal ++ ps ++ e ∷ []) later further
    (omega (arith, length-append (journal ++ ps) (e ∷ []))) a.on (subst (λ j. IsLegal (j ++ further)) (sym same) b.on)
    a.later_main b.later_main on (subst (λ j. GoesInTurn j tasks further) (sym same) other_on) in
    let middle : ps ++ e ∷ later ≡ qs ++ f ∷ further = λ i. first i ++ entry i ∷ rests i in
    is ∙ middle ∙ sym also

-- ---- the session

made_by_main : (planners pass : ℕ) (a : Act) → IsMade planners 0 pass a → pass ≡ 0
made_by_main planners pass (act.Opened tables at scripts) h = absurd h
made_by_main planners pass (act.Entered number) h = absurd h
made_by_main planners pass (act.Edited planner at edit) h = h.its_pass
made_by_main planners pass (act.Refused planner rule edit) h = h.its_pass
made_by_main planners pass (act.Asked planner section reply) h = h.its_pass
made_by_main planners pass (act.Published section at answer) h = h

pub session_alone_is_one : SessionAloneIsOne
session_alone_is_one tables at scripts journal other h k =
    let made = λ (e : Entry) (m : IsMade (length scripts) 0 e.pass e.act). made_by_main (length scripts) e.pass e.act m in
    let main = All-weaker (λ e. IsMade (length scripts) 0 e.pass e.act) (λ e. e.pass ≡ 0) made h.session.rest h.session.made in
    let other_main = All-weaker (λ e. IsMade (length scripts) 0 e.pass e.act) (λ e. e.pass ≡ 0) made k.session.rest k.session.made in
    let rests = turns_one (tasks_in_turn scripts) (opened tables at scripts ∷ []) h.session.rest k.session.rest (omega arith)
    (subst IsLegal h.session.is h.session.legal) (subst IsLegal k.session.is k.session.legal) main other_main h.in_turn k.in_turn in
    h.session.is ∙ ap (λ r. opened tables at scripts ∷ r) rests ∙ sym k.session.is
