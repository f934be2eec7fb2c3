-- The first entries of a session: the journal opens, and all passes are issued.
use Rattle.std.proofs.Common.{◌≡◌, ℕ, ◌+◌, ◌<◌, ◌≤◌, true, false, List, [], ◌∷◌, ◌++◌, length, map, refl, sym, ap, ◌∙◌, subst, inl, inr, arith, append_assoc, length-append}
use Rattle.std.specs.Prelude.{All, Contains}
use Rattle.std.specs.List.{range_with_len}
use Rattle.std.proofs.lemmas.Bool.{cases_Bool}
use Rattle.std.proofs.lemmas.List.Elements.{All-tail}
use Rattle.plan_model.specs.declared.journal.Act.{Act}
use Rattle.plan_model.specs.declared.journal.Act.TheVariants as act
use Rattle.plan_model.specs.declared.journal.Entry.{Entry}
use Rattle.plan_model.specs.Journal.{issues, issued}
use Rattle.plan_model.specs.Legal.{MayFollow, IsNext, IsLegal}
use Rattle.plan_model.proofs.Growing.{issued-more}
use Rattle.plan_model.proofs.Legality.{each_is_next}
use Rattle.turn_desk.specs.Journal.{GoesOn}

abbrev pub pass_of : Entry → ℕ
pass_of e = e.pass

-- how many passes an entry issues: none, or one
issued_none : issued [] ≡ 1
unfolding issued
issued_none = refl

pub issues_none : (e : Entry) → issues e.act ≡ false → issued (e ∷ []) ≡ 1
unfolding issued
issues_none e h = rw h refl

pub issues_one : (e : Entry) → issues e.act ≡ true → issued (e ∷ []) ≡ 2
unfolding issued
issues_one e h = rw h refl

one_at_most : (e : Entry) → issued (e ∷ []) ≤ 2
one_at_most e = elim (cases_Bool (issues e.act)) [
  | inl h ↦ omega (arith, issues_one e h)
  | inr h ↦ omega (arith, issues_none e h)
]

-- so entries issue no more passes than they are
few : (es : List Entry) → issued es ≤ length es + 1
few [] = omega (arith, issued_none)
few (e ∷ es) = omega (arith, issued-more (e ∷ []) es, one_at_most e, few es)

from : (o : Entry) (found more : List Entry) → issued (o ∷ []) ≡ 1 → IsLegal found → found ≡ (o ∷ []) ++ more
    → All (λ e. Contains (0 ∷ []) e.pass → ⊥) more → found ≡ o ∷ []
from o found [] none legal is others = is
from o found (e ∷ more) none legal is others =
    let next : IsNext (o ∷ []) e = each_is_next (o ∷ []) e more (omega arith) (subst IsLegal is legal) in
    let zero : e.pass ≡ 0 = omega (arith, next.pass, none) in
    absurd (others 0 e (omega arith) (subst (Contains (0 ∷ [])) (sym zero) (0, omega arith, refl)))

-- after an entry that issues no pass stands no entry of others than 0
pub nothing_between : (o : Entry) (found : List Entry) → issued (o ∷ []) ≡ 1 → IsLegal found
    → GoesOn pass_of (0 ∷ []) (o ∷ []) found → found ≡ o ∷ []
nothing_between o found none legal g = from o found g.more none legal g.is g.others

-- ---- passes are issued

-- an entry that issues a pass issues the next number
issues_next : (found : List Entry) (a : Act) → MayFollow found a → issues a ≡ true → a ≡ act.Entered (issued found)
issues_next found (act.Opened tables at scripts) h is = absurd (cc)
issues_next found (act.Entered number) h is = ap act.Entered h
issues_next found (act.Edited planner at edit) h is = absurd (cc)
issues_next found (act.Refused planner rule edit) h is = absurd (cc)
issues_next found (act.Asked planner section reply) h is = absurd (cc)
issues_next found (act.Published section at answer) h is = absurd (cc)

-- the entries that issue so many passes, from this number on
abbrev pub entering : ℕ → ℕ → List Entry
entering first count = map (λ number. record { pass = 0; act = act.Entered number }) (range_with_len first count)

-- entries by pass 0 that issue as many passes as they are
pub all_enter : (found own : List Entry) → 0 < length found → IsLegal (found ++ own) → All (λ e. e.pass ≡ 0) own
    → issued (found ++ own) ≡ issued found + length own → own ≡ entering (issued found) (length own)
all_enter found [] some legal made many = refl
all_enter found (e ∷ es) some legal made many =
    let next : IsNext found e = each_is_next found e es some legal in
    let whole : (found ++ e ∷ []) ++ es ≡ found ++ e ∷ es = append_assoc found (e ∷ []) es in
    let enters : issues e.act ≡ true = elim (cases_Bool (issues e.act)) [
      | inl h ↦ h
      | inr h ↦ absurd (omega (arith, issues_none e h, few es, issued-more (found ++ e ∷ []) es, issued-more found (e ∷ []), ap issued whole, many))
    ] in
    let more : issued (found ++ e ∷ []) ≡ issued found + 1 = omega (arith, issued-more found (e ∷ []), issues_one e enters) in
    let is : e ≡ record { pass = 0; act = act.Entered (issued found) } =
    (λ k. record { pass = made 0 e (omega arith) k; act = issues_next found e.act next.follows enters k }) in
    let rest : es ≡ entering (issued (found ++ e ∷ [])) (length es) =
    all_enter (found ++ e ∷ []) es (omega (arith, length-append found (e ∷ []))) (subst IsLegal (sym whole) legal)
    (All-tail (λ e. e.pass ≡ 0) e es made)
    (ap issued whole ∙ many ∙ omega (arith, more)) in
    (λ k. is k ∷ rest k) ∙ ap (λ n. record { pass = 0; act = act.Entered (issued found) } ∷ entering n (length es)) more
