-- A train has one chain: told from the train back, each link is its tie, and there is one.
use Rattle.std.proofs.Common.{◌≡◌, ℕ, ◌++◌, List, [], ◌∷◌, refl, sym, ap, subst, ◌∙◌}
use Rattle.std.specs.Prelude.{reverse}
use Rattle.std.proofs.lemmas.List.{append_assoc, append-nil, reverse-reverse}
use Rattle.std.proofs.lemmas.Grind.{reverse_onto}
use Rattle.plan_model.specs.declared.answer.Tie.{Tie}
use Rattle.plan_model.specs.declared.answer.Tie.TheVariants.{Start, After}
use Rattle.plan_model.specs.declared.answer.Plan.{Plan}
use Rattle.plan_model.specs.declared.answer.Link.{Link}
use Rattle.critical_chain.specs.Chain.{tie_at, link_at, Leads, ChainIsUnique}

-- some links, the last one first, lead from train i to train j
abbrev LeadsBack : Plan → ℕ → List Link → ℕ → Type 0
LeadsBack plan i [] j = i ≡ j
LeadsBack plan i (link ∷ links) j =
    (last : ℕ) × (block : ℕ) × (tie_at plan j ≡ After last block) × (link ≡ link_at plan last block j)
    × LeadsBack plan i links last

module _ (plan : Plan) where
  turned : (i m j : ℕ) (done links : List Link) → LeadsBack plan i done m → Leads plan m links j
      → LeadsBack plan i (reverse links ++ done) j
  turned i m j done [] back leads = subst (λ k. LeadsBack plan i done k) leads back
  turned i m j done (link ∷ links) back (next, block, l, tie, is, leads) =
      let rest = turned i next j (link ∷ done) links (m, block, tie, is, back) leads in
      let moved : reverse links ++ link ∷ done ≡ reverse (link ∷ links) ++ done =
      sym (ap (λ ls. ls ++ done) (reverse_onto links link []) ∙ append_assoc (reverse links) (link ∷ []) done) in
      subst (λ ls. LeadsBack plan i ls j) moved rest

  same_train : (a b c d : ℕ) → After a b ≡ After c d → a ≡ c
  same_train a b c d e = cc

  same_place : (a b c d : ℕ) → After a b ≡ After c d → b ≡ d
  same_place a b c d e = cc

  no_tie : (a b : ℕ) (t : Tie) → t ≡ Start → t ≡ After a b → ⊥
  no_tie a b t s e = let same : Start ≡ After a b = sym s ∙ e in absurd (cc)

  only : (i k j : ℕ) (links other : List Link) → tie_at plan i ≡ Start → tie_at plan k ≡ Start
      → LeadsBack plan i links j → LeadsBack plan k other j → links ≡ other
  only i k j [] [] s t a b = refl
  only i k j [] (link ∷ other) s t a (last, block, tie, is, rest) =
      absurd (no_tie last block (tie_at plan j) (sym (ap (tie_at plan) a) ∙ s) tie)
  only i k j (link ∷ links) [] s t (last, block, tie, is, rest) b =
      absurd (no_tie last block (tie_at plan j) (sym (ap (tie_at plan) b) ∙ t) tie)
  only i k j (link ∷ links) (link' ∷ other) s t (last, block, tie, is, rest) (last', block', tie', is', rest') =
      let both : After last block ≡ After last' block' = sym tie ∙ tie' in
      let one : last ≡ last' = same_train last block last' block' both in
      let place : block ≡ block' = same_place last block last' block' both in
      let head : link ≡ link' = is ∙ ap (λ m. link_at plan m block j) one ∙ ap (λ p. link_at plan last' p j) place ∙ sym is' in
      let tail : links ≡ other = only i k last' links other s t (subst (λ m. LeadsBack plan i links m) one rest) rest' in
      ap (λ l. l ∷ links) head ∙ ap (λ ls. link' ∷ ls) tail

  back_from : (i j : ℕ) (links : List Link) → Leads plan i links j → LeadsBack plan i (reverse links ++ []) j
  back_from i j links leads = turned i i j [] links refl leads

pub chain_is_unique : ChainIsUnique
chain_is_unique plan train links other (i, li, s, a) (k, lk, t, b) =
    let same : reverse links ++ [] ≡ reverse other ++ [] =
    only plan i k train (reverse links ++ []) (reverse other ++ []) s t (back_from plan i train links a)
    (back_from plan k train other b) in
    sym (reverse-reverse links)
    ∙ ap reverse (sym (append-nil (reverse links)) ∙ same ∙ append-nil (reverse other))
    ∙ reverse-reverse other
