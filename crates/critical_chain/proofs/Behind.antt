-- The links behind a train by its ties lead to it from one that enters at the window's start.
use Rattle.std.proofs.Common.{◌≡◌, ℕ, zero, suc, ◌<◌, ◌++◌, List, [], ◌∷◌, length, refl, sym, ap, subst, arith}
use Rattle.plan_model.specs.declared.answer.Tie.{Tie}
use Rattle.plan_model.specs.declared.answer.Tie.TheVariants.{Start, After}
use Rattle.plan_model.specs.declared.cut.Cut.{Cut}
use Rattle.plan_model.specs.declared.answer.Plan.{Plan}
use Rattle.plan_model.specs.declared.answer.Link.{Link}
use Rattle.plan_model.proofs.MemberTests.{has}
use Rattle.critical_chain.specs.Chain.{IsPlanOf, tie_at, link_at, Leads, IsChain, through_tie, chain_back, ChainIsOf}
use Rattle.critical_chain.proofs.Rounds.{IsOutWithin, some_rounds, earlier}
use Rattle.critical_chain.proofs.Walk.{count, binds}

-- links that lead to a train lead on by its successor's tie
leads_on : (plan : Plan) (first m block j : ℕ) (links : List Link) → j < length plan.placed → tie_at plan j ≡ After m block
    → Leads plan first links m → Leads plan first (links ++ link_at plan m block j ∷ []) j
leads_on plan first m block j [] l tie e =
    subst (λ i. Leads plan i (link_at plan m block j ∷ []) j) (sym e) (j, block, l, tie, refl, refl)
leads_on plan first m block j (link ∷ links) l tie (next, place, l', tie', is, rest) =
    (next, place, l', tie', is, leads_on plan next m block j links l tie rest)

module _ (cut : Cut) (plan : Plan) (of : IsPlanOf cut plan) where
  -- the links behind the train of a tie and the tie's link, where those behind that train are its chain
  by_tie : (n j : ℕ) → j < length plan.placed
      → ((i block : ℕ) → tie_at plan j ≡ After i block → IsChain plan i (chain_back plan n i))
      → (tie : Tie) → tie_at plan j ≡ tie → IsChain plan j (through_tie plan (chain_back plan n) j tie)
  by_tie n j l rest Start is = (j, l, is, refl)
  by_tie n j l rest (After i block) is =
      let back = rest i block is in
      (back.0, back.1, back.2, leads_on plan back.0 i block j (chain_back plan n i) l is back.3)

  pub behind : (n j : ℕ) → j < length plan.placed → IsOutWithin cut n j → IsChain plan j (chain_back plan n j)
  behind zero j l out =
      absurd (let some = some_rounds cut zero j (omega (arith, l, count cut plan of)) out in omega (arith, some))
  behind (suc n) j l out =
      by_tie n j l
      (λ i block is.
      let bound = binds cut plan of i block j l is in
      behind n i (omega (arith, bound.member, count cut plan of))
      (earlier cut (suc n) n i j refl (omega (arith, l, count cut plan of)) bound.before out))
      (tie_at plan j) refl

pub chain_is_of : ChainIsOf
chain_is_of plan train (cut, of) l =
    behind cut plan of (length plan.placed) train l
    (subst (λ n. IsOutWithin cut n train) (sym (count cut plan of)) (ap (λ some. has some train) of.1))
