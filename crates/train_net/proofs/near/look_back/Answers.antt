use Rattle.std.proofs.Common.{◌≡◌, List, ◌+◌, ◌-◌, ◌<◌, inl, inr, refl, sym, ap, subst, ◌∙◌, arith, get_or}
use Rattle.std.specs.Prelude.{None, slice_index_or, find, ◌==◌}
use Rattle.rail_model.specs.declared.stair.Use.{Use}
use Rattle.plan_model.specs.declared.cut.CutRow.{CutRow}
use Rattle.plan_model.specs.Members.{member, place_count}
use Rattle.train_net.specs.Near.{filled, near_by, IsNearFrom}
use Rattle.std.specs.Option.{IsSome}
use Rattle.std.proofs.lemmas.Bool.{cases_lt}
use Rattle.train_net.proofs.Filling.{with_row, stays_found}
use Rattle.train_net.proofs.near.look_back.Goals as goal

pub loop-from-preserved : goal.loop-from-preserved
loop-from-preserved c =
    let cut = c.args.cut.now in
    let order = c.args.order.now in
    let from = c.loop-from.from - 1 in
    let train = get_or order from 0 in
    let inv = c.loop-from.invariant in
    let next : c.loop-from.from ≡ from + 1 = omega (arith, c.loop-from-test.true) in
    let uses = c.slice.ensures ∙ ap (λ (r : CutRow). r.uses) c.row.ensures.row in
    record {
      within = omega (arith, inv.within);
      count = c.fill.ensures.count ∙ inv.count;
      all = λ p l.
          let before = slice_index_or c.loop-from.near p None in
          let is = c.fill.ensures.all p (omega (arith, l, inv.count))
          ∙ ap (λ (us : List Use). filled before (near_by train (find (λ u. u.block == p) us) None)) uses in
          subst (IsNearFrom cut order from c.args.at p) (sym is)
          (with_row cut order c.args.at p from (omega (arith, next, inv.within)) before
          (subst (λ k. IsNearFrom cut order k c.args.at p before) next (inv.all p l))
          (find (λ (u : Use). u.block == p) (member cut train).uses) refl);
      reached = c.found_from-found.ensures.within;
      found = λ k l. elim (cases_lt k c.loop-from.found) [
        | inl lt ↦
            let p = get_or c.args.wanted.now k 0 in
            let there : p < place_count cut = c.requires.wanted k 0 (omega (arith, lt, inv.reached)) in
            subst IsSome (sym (c.fill.ensures.all p (omega (arith, there, inv.count))))
            (stays_found (slice_index_or c.loop-from.near p None) _ (inv.found k lt))
        | inr ge ↦ c.found_from-found.ensures.found k (omega (arith, ge)) l
      ];
    }
