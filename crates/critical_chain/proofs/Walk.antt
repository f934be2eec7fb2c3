-- The walk from a train back along ties.
use Rattle.std.proofs.Common.{◌≡◌, ℕ, zero, suc, ◌+◌, ◌-◌, ◌<◌, ◌≤◌, ◌++◌, List, [], ◌∷◌, length, refl, sym, ap, subst, ◌∙◌, arith, length-append}
use Rattle.std.specs.Prelude.{reverse, slice_index_or}
use Rattle.std.proofs.lemmas.List.FromFn.{length-map-range_with_len, get_or-map-range_with_len}
use Rattle.std.proofs.lemmas.List.{append_assoc, append-nil, reverse-append, get_or_default}
use Rattle.rail_model.specs.declared.limits.TheConstants.{RUNS}
use Rattle.plan_model.specs.declared.cut.Cut.{Cut}
use Rattle.plan_model.specs.declared.answer.Tie.TheVariants.{Start, After}
use Rattle.plan_model.specs.declared.answer.Placed.{Placed}
use Rattle.plan_model.specs.declared.answer.Plan.{Plan}
use Rattle.plan_model.specs.declared.answer.Link.{Link}
use Rattle.plan_model.specs.Members.{place_count, member_count}
use Rattle.plan_model.specs.Schedule.{tie_of}
use Rattle.plan_model.specs.Answer.{placed_at}
use Rattle.plan_model.proofs.MemberTests.{has}
use Rattle.critical_chain.specs.Chain.{IsPlan, IsPlanOf, no_train, tie_at, link_at, Leads, through_tie, chain_back}
use Rattle.critical_chain.proofs.Rounds.{IsOutWithin, some_rounds, earlier}
use Rattle.critical_chain.proofs.Ties.{IsBound, bound}

module _ (cut : Cut) (plan : Plan) (of : IsPlanOf cut plan) where
  pub count : length plan.placed ≡ member_count cut
  count = ap (λ (p : Plan). length p.placed) of.2.2 ∙ length-map-range_with_len (placed_at cut of.2.0) 0 (member_count cut)

  pub place_total : length plan.blocks ≡ place_count cut
  place_total = ap (λ (p : Plan). length p.blocks) of.2.2

  tie_is : (j : ℕ) → j < member_count cut → tie_at plan j ≡ tie_of cut of.2.0 j
  tie_is j l =
      ap (λ (p : Plan). tie_at p j) of.2.2
      ∙ ap (λ (p : Placed). p.tie)
      (get_or-map-range_with_len (placed_at cut of.2.0) 0 (member_count cut) j j no_train l (omega arith))

  pub binds : (i block j : ℕ) → j < length plan.placed → tie_at plan j ≡ After i block → IsBound cut i block j
  binds i block j l e =
      let there : j < member_count cut = omega (arith, l, count) in
      bound cut of.2.0 i block j (sym (tie_is j there) ∙ e)

  pub few : length plan.placed ≤ RUNS
  few = omega (arith, count, of.0.most_rows)

-- what is read at a position of a list
pub read : {X : Type 0} (items list : List X) (at : ℕ) (d e : X) → items ≡ list → at < length list
    → slice_index_or items at d ≡ slice_index_or list at e
read items list at d e same l = ap (λ xs. slice_index_or xs at d) same ∙ get_or_default list at d e l

-- the links behind a train end there where it has no tie, and else with the one of its tie
pub none_behind : (plan : Plan) (n j : ℕ) → tie_at plan j ≡ Start → chain_back plan n j ≡ []
none_behind plan zero j e = refl
none_behind plan (suc n) j e = ap (through_tie plan (chain_back plan n) j) e

pub one_behind : (plan : Plan) (n m i block j : ℕ) → n ≡ suc m → tie_at plan j ≡ After i block
    → chain_back plan n j ≡ chain_back plan m i ++ link_at plan i block j ∷ []
one_behind plan n m i block j is e =
    ap (λ k. chain_back plan k j) is ∙ ap (through_tie plan (chain_back plan m) j) e

-- the walk has come to a train: its links, the last one first, lead from there and end the train's chain, and as many
-- rounds as there are trains left to visit take it out
pub record HasWalked (plan : Plan) (train : ℕ) (links : List Link) (at : ℕ) : Type 0 where
  pub there : at < length plan.placed
  pub leads : Leads plan at (reverse links) train
  pub behind : chain_back plan (length plan.placed) train
      ≡ chain_back plan (length plan.placed - length links) at ++ reverse links
  pub short : length links ≤ length plan.placed
  pub left : (cut : Cut) → IsPlanOf cut plan → IsOutWithin cut (length plan.placed - length links) at

pub at_first : (plan : Plan) (train : ℕ) → train < length plan.placed → HasWalked plan train [] train
at_first plan train l = record {
  there = l;
  leads = refl;
  behind =
      let all : length plan.placed - 0 ≡ length plan.placed = omega arith in
      sym (append-nil (chain_back plan (length plan.placed - 0) train) ∙ ap (λ n. chain_back plan n train) all);
  short = omega arith;
  left = λ cut of.
      let all : length plan.placed - 0 ≡ member_count cut = omega (arith, count cut plan of) in
      subst (λ n. IsOutWithin cut n train) (sym all) (ap (λ some. has some train) of.1);
}

module _ (plan : Plan) (is : IsPlan plan) (train : ℕ) (links : List Link) (at : ℕ) (walked : HasWalked plan train links at)
    (i block : ℕ) (tie : tie_at plan at ≡ After i block) where
  bound_at : IsBound is.0 i block at
  bound_at = binds is.0 plan is.1 i block at walked.there tie

  pub train_there : i < length plan.placed
  train_there = omega (arith, bound_at.member, count is.0 plan is.1)

  pub place_there : block < length plan.blocks
  place_there = omega (arith, bound_at.place, place_total is.0 plan is.1)

  pub more_left : length links < length plan.placed
  more_left =
      let l : at < member_count is.0 = omega (arith, walked.there, count is.0 plan is.1) in
      omega (arith, some_rounds is.0 (length plan.placed - length links) at l (walked.left is.0 is.1))

  one_fewer : (cut : Cut) → IsPlanOf cut plan → IsOutWithin cut (length plan.placed - (length links + 1)) i
  one_fewer cut of =
      earlier cut (length plan.placed - length links) (length plan.placed - (length links + 1)) i at (omega (arith, more_left))
      (omega (arith, walked.there, count cut plan of)) (binds cut plan of i block at walked.there tie).before (walked.left cut of)

  pub one_more : (more : List Link) (link : Link) → more ≡ links ++ link ∷ [] → link ≡ link_at plan i block at
      → HasWalked plan train more i
  one_more more link e is_link =
      let long : length more ≡ length links + 1 = ap length e ∙ length-append links (link ∷ []) in
      record {
        there = train_there;
        leads =
            subst (λ ls. Leads plan i ls train) (sym (ap reverse e ∙ reverse-append links (link ∷ [])))
            (at, block, walked.there, tie, is_link, walked.leads);
        behind =
            walked.behind
            ∙ ap (λ ls. ls ++ reverse links)
            (one_behind plan (length plan.placed - length links) (length plan.placed - length more) i block at
            (omega (arith, more_left, long)) tie)
            ∙ append_assoc (chain_back plan (length plan.placed - length more) i) (link_at plan i block at ∷ []) (reverse links)
            ∙ ap (λ ls. chain_back plan (length plan.placed - length more) i ++ ls)
            (ap (λ l. l ∷ reverse links) (sym is_link) ∙ sym (ap reverse e ∙ reverse-append links (link ∷ [])));
        short = omega (arith, more_left, long);
        left = λ cut of. subst (λ k. IsOutWithin cut (length plan.placed - k) i) (sym long) (one_fewer cut of);
      }
