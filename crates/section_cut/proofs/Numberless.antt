-- The moments of a stairway don't depend on the numbers of its blocks.
use Rattle.std.proofs.Common.{◌≡◌, ℕ, ◌-◌, ◌≤◌, map, refl, sym, ap, ◌∙◌, subst, arith}
use Rattle.std.specs.Prelude.{All}
use Rattle.std.specs.List.{range_with_len}
use Rattle.std.proofs.lemmas.List.{get_or-map}
use Rattle.std.proofs.lemmas.Simd.{map-map}
use Rattle.rail_model.specs.declared.path.Hop.{Hop}
use Rattle.rail_model.specs.declared.path.Path.{Path}
use Rattle.rail_model.specs.declared.stair.Use.{Use}
use Rattle.rail_model.specs.Blocking.{hop, hop_count, no_hop}
use Rattle.rail_model.specs.Blocking as blocking
use Rattle.rail_model.proofs.Lists.{map_same, map_itself, All-from_one}
use Rattle.section_cut.proofs.Alike.{bare, count_same, use_same}

-- a hop with another number for its block, and a path with other numbers for its blocks
abbrev pub renumbered_hop : (ℕ → ℕ) → Hop → Hop
renumbered_hop f h = record h { block = f h.block }

abbrev pub renumbered : (ℕ → ℕ) → Path → Path
renumbered f path = record path { hops = map (renumbered_hop f) path.hops }

module _ (f : ℕ → ℕ) where
  module _ (path : Path) where
    abbrev other : Path
    other = renumbered f path

    alike : map bare path.hops ≡ map bare other.hops
    alike = sym (map-map bare (renumbered_hop f) path.hops)

    use_is : (k : ℕ) → 1 ≤ k → k ≤ hop_count path → record (blocking.use_of path k) { block = f (hop path k).block } ≡ blocking.use_of other k
    use_is k some on =
        use_same path other.hops alike k (renumbered_hop f (hop path k)) (sym (get_or-map (renumbered_hop f) path.hops (k - 1) no_hop no_hop (omega arith))) refl

    -- so a stairway with other numbers for its blocks is that of the path with these numbers
    pub uses_renumbered : map (λ (u : Use). record u { block = f u.block }) (blocking.stairway path) ≡ blocking.stairway other
    uses_renumbered =
        let all = range_with_len 1 (hop_count path) in
        let one : ℕ → Use = λ k. record (blocking.use_of path k) { block = f (hop path k).block } in
        let Same : ℕ → Type 0 = λ k. one k ≡ blocking.use_of other k in
        map-map (λ (u : Use). record u { block = f u.block }) (blocking.use_of path) all
        ∙ map_same one (blocking.use_of other) all
        (subst (All Same) (map_itself all) (All-from_one Same (λ k. k) (hop_count path) (λ k some on. use_is k some on)))
        ∙ ap (λ n. map (blocking.use_of other) (range_with_len 1 n)) (count_same path other.hops alike)
