-- How long forming and watching take at the hops of paths.
use Rattle.std.proofs.Common.{◌≡◌, ℕ, zero, suc, ◌+◌, ◌<◌, ◌≤◌, eqb, ltb, List, ◌∷◌, [], length, get_or, take, All, sym, subst, inl, inr, arith}
use Rattle.std.specs.List.{zip}
use Rattle.std.specs.Ordering.{ord_max, nat_cmp}
use Rattle.std.proofs.Math.ListN.{get_or-eq_default}
use Rattle.std.proofs.lemmas.Bool.{cases_Bool, cases_lt, ltb-true, ltb-false}
use Rattle.std.proofs.lemmas.List.{take_more}
use Rattle.std.proofs.lemmas.List.Elements.{All-append, All-map}
use Rattle.std.proofs.lemmas.Slice.Zip.{length-zip, get_or-zip}
use Rattle.rail_model.specs.declared.items.Leg.{Leg}
use Rattle.rail_model.specs.declared.items.Run.{Run}
use Rattle.rail_model.specs.declared.path.Hop.{Hop}
use Rattle.rail_model.specs.declared.path.Path.{Path}
use Rattle.rail_model.specs.Blocking.{no_hop}
use Rattle.line_tables.specs.declared.linked.Linked.{Linked}
use Rattle.line_tables.specs.Hops.{with_leg, with_legs, hops_at, keys_along, path_by_keys, paths_by_keys}

-- the greater of two numbers is at least each of them
pub greater_of_two : (a b m : ℕ) → m ≡ ord_max nat_cmp a b → (a ≤ m) × (b ≤ m)
greater_of_two a b m is = elim (cases_Bool (ltb b a)) [
  | inl e ↦ let at = rw e at is in let less = ltb-true b a e in (omega (arith, at), omega (arith, at, less))
  | inr e ↦ elim (cases_Bool (eqb b a)) [
    | inl f ↦ let at = rw (e, f) at is in let most = ltb-false b a e in (omega (arith, at, most), omega (arith, at))
    | inr f ↦ let at = rw (e, f) at is in let most = ltb-false b a e in (omega (arith, at, most), omega (arith, at))
  ]
]

all_of_one : {X : Type 0} (Q : X → Type 0) (x : X) → Q x → All Q (x ∷ [])
all_of_one Q x here zero d below = here
all_of_one Q x here (suc k) d below = absurd (omega (arith, below))

-- one item more, where what holds of the items so far still holds of them
pub all_more : {X : Type 0} (P Q : X → Type 0) (xs : List X) (n : ℕ) (d : X) → n < length xs → ((x : X) → P x → Q x)
    → Q (get_or xs n d) → All P (take n xs) → All Q (take (n + 1) xs)
all_more P Q xs n d l still here before =
    subst (All Q) (sym (take_more xs n d l))
    (All-append Q (take n xs) (get_or xs n d ∷ []) (λ k e b. still (get_or (take n xs) k e) (before k e b)) (all_of_one Q (get_or xs n d) here))

module _ (lead : ℕ) where
  abbrev IsWithin : Hop → Type 0
  IsWithin h = h.watch_s + h.form_s ≤ lead

  within_at : (hops : List Hop) → All IsWithin hops → (k : ℕ) → IsWithin (get_or hops k no_hop)
  within_at hops all k = elim (cases_lt k (length hops)) [
    | inl l ↦ all k no_hop l
    | inr past ↦ subst IsWithin (sym (get_or-eq_default hops no_hop past)) (omega arith)
  ]

  within_timed : (hops : List Hop) (legs : List Leg) → All IsWithin hops → All IsWithin (with_legs hops legs)
  within_timed hops legs all =
      All-map IsWithin (λ p. with_leg p.0 p.1) (zip hops legs) (λ i d l.
      let count = length-zip hops legs in
      let named : i < length hops = omega (arith, l, count) in
      let timed : i < length legs = omega (arith, l, count) in
      subst (λ (p : Hop × Leg). IsWithin p.0) (sym (get_or-zip hops legs i d named timed)) (all i d.0 named))

  -- a lead for a list of hops is one for the paths over them
  pub lead_of_paths : {A : Type 0} (runs : List (ℕ × Linked Run)) (routes : List (ℕ × Linked A)) (hops : List Hop) → All IsWithin hops → All (λ (p : Path). All IsWithin p.hops) (paths_by_keys runs routes hops)
  lead_of_paths runs routes hops all =
      All-map (λ (p : Path). All IsWithin p.hops) (λ u. path_by_keys routes hops u.1) runs (λ n d l.
      let run = (get_or runs n d).1 in
      within_timed (hops_at hops (keys_along routes run)) run.item.legs
      (All-map IsWithin (λ k. get_or hops k no_hop) (keys_along routes run) (λ i e b. within_at hops all (get_or (keys_along routes run) i e))))
