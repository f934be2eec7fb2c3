use Rattle.std.proofs.Common.{◌≡◌, ℕ, ◌+◌, ◌-◌, ◌<◌, ◌≤◌, inl, inr, refl, sym, ap, subst, ◌∙◌, arith, get_or}
use Rattle.std.specs.Prelude.{None, slice_index_or, find, ◌==◌}
use Rattle.std.specs.Option.{IsSome}
use Rattle.std.proofs.lemmas.Bool.{cases_lt}
use Rattle.rail_model.specs.declared.stair.Use.{Use}
use Rattle.plan_model.specs.declared.cut.CutRow.{CutRow}
use Rattle.plan_model.specs.Members.{member, block_count, place_count}
use Rattle.train_net.specs.Near.{filled, near_by, IsNear, IsNearFrom}
use Rattle.train_net.proofs.Filling.{with_row, near_stays, filled_none, stays_found}
use Rattle.train_net.proofs.near.look_further.Goals as goal

pub loop-from-preserved : goal.loop-from-preserved
loop-from-preserved c =
    let cut = c.args.cut.now in
    let order = c.args.order.now in
    let from = c.loop-from.from - 1 in
    let train = get_or order from 0 in
    let inv = c.loop-from.invariant in
    let next : c.loop-from.from ≡ from + 1 = omega (arith, c.loop-from-test.true) in
    let lt : from < c.args.at = omega (arith, next, inv.within, c.requires.within.0) in
    let uses = c.slice-uses.ensures ∙ ap (λ (r : CutRow). r.uses) c.row.ensures.row in
    let count = c.block_count.ensures.count in
    let own = λ (p : ℕ). find (λ (u : Use). u.block == p) (member cut train).uses in
    let now = λ (p : ℕ). slice_index_or c.loop-from.near p None in
    let of_connection : (p : ℕ) → block_count cut ≤ p → p < place_count cut → slice_index_or c.fill.new.near p None ≡ filled (now p) (near_by train (own p) None) =
    λ p ge l.
    c.fill.ensures.all p (omega (arith, l, inv.count))
    ∙ ap (λ o. filled (now p) (near_by train o None))
    (c.uses_of_connections.ensures.connections p (omega (arith, ge, count)) ∙ ap (find (λ (u : Use). u.block == p)) uses) in
    let of_block : (p : ℕ) → p < block_count cut → p < place_count cut → slice_index_or c.fill.new.near p None ≡ now p =
    λ p below l.
    c.fill.ensures.all p (omega (arith, l, inv.count))
    ∙ ap (λ o. filled (now p) (near_by train o None)) (c.uses_of_connections.ensures.blocks p (omega (arith, below, count)))
    ∙ sym (filled_none (now p)) in
    record {
      within = omega (arith, inv.within);
      count = c.fill.ensures.count ∙ inv.count;
      kept = λ p l is. elim (cases_lt p (block_count cut)) [
        | inl below ↦ subst (IsNear cut order c.args.at p) (sym (of_block p below l)) (inv.kept p l is)
        | inr ge ↦
            subst (IsNear cut order c.args.at p) (sym (of_connection p ge l))
            (near_stays cut order c.args.at p from lt (now p) (inv.kept p l is) (own p) refl)
      ];
      connections = λ p is.
          subst (IsNearFrom cut order from c.args.at p) (sym (of_connection p is.0 is.1))
          (with_row cut order c.args.at p from lt (now p)
          (subst (λ k. IsNearFrom cut order k c.args.at p (now p)) next (inv.connections p is)) (own p) refl);
      reached = c.found_from-found.ensures.within;
      found = λ k l. elim (cases_lt k c.loop-from.found) [
        | inl fewer ↦
            let p = get_or c.args.wanted.now k 0 in
            let there = c.requires.wanted k 0 (omega (arith, fewer, inv.reached)) in
            subst IsSome (sym (of_connection p there.0 there.1)) (stays_found (now p) _ (inv.found k fewer))
        | inr ge ↦ c.found_from-found.ensures.found k (omega (arith, ge)) l
      ];
    }
