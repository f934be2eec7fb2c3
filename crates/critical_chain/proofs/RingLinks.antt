-- The links of a ring, one after the other.
use Rattle.std.proofs.Common.{◌≡◌, ℕ, ◌+◌, ◌<◌, ◌≤◌, ◌++◌, List, [], ◌∷◌, length, map, take, drop, get_or, sym, ap, ◌∙◌, arith, length-append, length-drop}
use Rattle.std.specs.List.{zip}
use Rattle.std.proofs.lemmas.List.{take_more, take_all, take-map, length-map, length-take}
use Rattle.std.proofs.lemmas.Slice.Zip.{length-zip}
use Rattle.plan_model.specs.declared.cut.Cut.{Cut}
use Rattle.plan_model.specs.declared.answer.Link.{Link}
use Rattle.plan_model.specs.Disorder.{link_of}
use Rattle.train_order.specs.Walk.{IsNext}
use Rattle.train_order.proofs.Cycle.{pairs_more, pairs_all}

last_same : {X : Type 0} (xs : List X) (a b : X) → xs ++ a ∷ [] ≡ xs ++ b ∷ [] → a ≡ b
last_same [] a b e = cc
last_same (x ∷ xs) a b e = let rest : xs ++ a ∷ [] ≡ xs ++ b ∷ [] = cc in last_same xs a b rest

module _ (cut : Cut) (ms : List ℕ) (some : 0 < length ms) where
  abbrev pairs : List (ℕ × ℕ)
  pairs = zip ms (drop 1 ms ++ take 1 ms)

  turned_long : length (drop 1 ms ++ take 1 ms) ≡ length ms
  turned_long = length-append (drop 1 ms) (take 1 ms) ∙ omega (arith, length-drop 1 ms, length-take 1 ms)

  pub long : length (map (link_of cut) pairs) ≡ length ms
  long = length-map pairs (link_of cut) ∙ length-zip ms (drop 1 ms ++ take 1 ms) ∙ omega (arith, turned_long)

  module _ (links : List Link) (k m : ℕ) (d : Link) (lk : k < length ms) (lm : m < length ms) (next : IsNext (length ms) k m)
      (there : k < length links) where
    -- one link more
    pub one_more : take k links ≡ map (link_of cut) (take k pairs) → get_or links k d ≡ link_of cut (get_or ms k 0, get_or ms m 0)
        → take (k + 1) links ≡ map (link_of cut) (take (k + 1) pairs)
    one_more before is =
        take_more links k d there
        ∙ ap (λ ls. ls ++ get_or links k d ∷ []) before
        ∙ ap (λ one. map (link_of cut) (take k pairs) ++ one ∷ []) is
        ∙ sym (pairs_more (link_of cut) ms some k m lk lm next)

    -- the link at a place
    pub its_link : links ≡ map (link_of cut) pairs → get_or links k d ≡ link_of cut (get_or ms k 0, get_or ms m 0)
    its_link e =
        let first : take k links ≡ map (link_of cut) (take k pairs) = ap (take k) e ∙ take-map (link_of cut) k pairs in
        last_same (map (link_of cut) (take k pairs)) (get_or links k d) (link_of cut (get_or ms k 0, get_or ms m 0))
        (sym (take_more links k d there ∙ ap (λ ls. ls ++ get_or links k d ∷ []) first)
        ∙ ap (take (k + 1)) e ∙ take-map (link_of cut) (k + 1) pairs
        ∙ pairs_more (link_of cut) ms some k m lk lm next)

  -- all links
  pub all_links : (links : List Link) (k : ℕ) → length ms ≤ k → length links ≡ length ms
      → take k links ≡ map (link_of cut) (take k pairs) → links ≡ map (link_of cut) pairs
  all_links links k l count e =
      sym (take_all k links (omega (arith, l, count))) ∙ e ∙ pairs_all (link_of cut) ms some k l
