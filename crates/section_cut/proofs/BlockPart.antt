-- Uses of which those of blocks stand first: these are found by halving.
use Rattle.std.proofs.Common.{◌≡◌, ℕ, ◌+◌, ◌-◌, ◌<◌, ◌≤◌, Bool, true, false, not, ltb, List, ◌++◌, length, get_or, take, drop, Option, Some, None, sym, ap, ◌∙◌, subst, inl, inr, arith}
use Rattle.std.specs.Prelude.{filter, IfSome}
use Rattle.std.specs.List.Sorted.{IsPartitionedBy, IsPartitionPoint}
use Rattle.std.proofs.lemmas.Bool.{cases_lt, both_ways, not-true}
use Rattle.std.proofs.lemmas.List.{take-append-drop, get_or-take, get_or-drop, length-take-le, length-drop, append-nil, length-append, take_all}
use Rattle.std.proofs.lemmas.List.Elements.{filter-append, filter_passes}
use Rattle.std.proofs.Math.ListN.{get_or-append}
use Rattle.std.proofs.Math.Seq.{get_or-append-add, drop-append-add}
use Rattle.rail_model.proofs.Places.{filter_all, filter_none}
use Rattle.rail_model.specs.declared.stair.Use.{Use}
use Rattle.plan_model.specs.declared.cut.Cut.{Cut}
use Rattle.plan_model.specs.declared.cut.CutRow.{CutRow}
use Rattle.plan_model.specs.Cut.{AreBlocksFirst, IsSoundCut}
use Rattle.plan_model.specs.Members.{no_member}
use Rattle.section_cut.specs.Stamps.{IsOwn}

module _ (blocks : ℕ) (uses : List Use) where
  abbrev inside : Use → Bool
  inside u = ltb u.block blocks

  pub uses_partitioned : AreBlocksFirst blocks uses → IsPartitionedBy inside uses
  uses_partitioned first i j d le l passes =
      let some = filter inside uses in
      let others = filter (λ (u : Use). not (inside u)) uses in
      let long : length uses ≡ length some + length others = ap length first ∙ length-append some others in
      elim (cases_lt j (length some)) [
        | inl early ↦
            let at : get_or uses i d ≡ get_or some i d = ap (λ us. get_or us i d) first ∙ get_or-append some others d i (omega (arith, le, early)) in
            ap inside at ∙ filter_passes inside uses i d (omega (arith, le, early))
        | inr late ↦
            let k = j - length some in
            let here : length some + k ≡ j = omega (arith, late) in
            let at : get_or uses j d ≡ get_or others k d =
            ap (λ us. get_or us j d) first ∙ ap (λ m. get_or (some ++ others) m d) (sym here) ∙ get_or-append-add some others k d in
            let out = not-true (inside (get_or others k d)) (filter_passes (λ (u : Use). not (inside u)) uses k d (omega (arith, l, long, here))) in
            absurd (both_ways (inside (get_or uses j d)) (ap inside at ∙ out) passes)
      ]

  pub part_taken : (k : ℕ) → k ≤ length uses → IsPartitionPoint (λ u. inside u ≡ true) (λ u. inside u ≡ false) uses k
      → take k uses ≡ filter inside uses
  part_taken k le point =
      sym
      (ap (filter inside) (sym (take-append-drop k uses)) ∙ filter-append inside (take k uses) (drop k uses)
      ∙ rw (
        filter_all inside (take k uses)
            (λ i d l. let here : i < k = omega (arith, l, length-take-le k uses le) in rw (get_or-take k uses i d here) (point.0 i d (omega arith) here)),
        filter_none inside (drop k uses)
            (λ i d l. rw (get_or-drop k uses i d) (point.1 (k + i) d (omega arith) (omega (arith, l, length-drop k uses)))),
      )
      (append-nil (take k uses)))

-- and those of connections behind them
pub rest_taken : (blocks : ℕ) (uses : List Use) → AreBlocksFirst blocks uses
    → take (length uses - length (filter (λ u. ltb u.block blocks) uses)) (drop (length (filter (λ u. ltb u.block blocks) uses)) uses)
    ≡ filter (λ u. not (ltb u.block blocks)) uses
rest_taken blocks uses first =
    let some = filter (λ (u : Use). ltb u.block blocks) uses in
    let others = filter (λ (u : Use). not (ltb u.block blocks)) uses in
    let long : length uses ≡ length some + length others = ap length first ∙ length-append some others in
    let at : length some + 0 ≡ length some = omega arith in
    ap (λ us. take (length uses - length some) (drop (length some) us)) first
    ∙ ap (λ m. take (length uses - length some) (drop m (some ++ others))) (sym at)
    ∙ ap (take (length uses - length some)) (drop-append-add some others 0)
    ∙ take_all (length uses - length some) others (omega (arith, long))

-- a row of a sound cut has those of blocks first
pub own_blocks_first : (old : Cut) → IsSoundCut old → (name : List ℕ) (at : ℕ) (own : Option CutRow) → IsOwn old.rows name at own
    → IfSome own (λ r. AreBlocksFirst (length old.section.blocks) r.uses)
own_blocks_first old sound name at None is = tt
own_blocks_first old sound name at (Some row) is =
    subst (λ (r : CutRow). AreBlocksFirst (length old.section.blocks) r.uses) is.1 (sound.each at no_member is.0.0).blocks_first
