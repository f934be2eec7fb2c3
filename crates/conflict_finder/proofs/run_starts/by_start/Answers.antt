use Rattle.std.proofs.Common.{◌≡◌, ℕ, ◌+◌, ◌<◌, ◌∷◌, [], ◌++◌, List, map, length, get_or, refl, sym, ap, subst, ◌∙◌, append-nil, arith}
use Rattle.std.specs.Prelude.{pos}
use Rattle.std.specs.List.{All, flat_map, range_with_len}
use Rattle.std.specs.List.Sorted.{IsPermutation}
use Rattle.std.proofs.lemmas.List.{get_or_default}
use Rattle.std.proofs.lemmas.List.Concat.{flat_map-append}
use Rattle.std.proofs.lemmas.List.Elements.{All-push}
use Rattle.std.proofs.lemmas.List.Sorted.{All-permutation}
use Rattle.rail_model.specs.declared.stair.Stair.{Stair}
use Rattle.rail_model.specs.Conflict.{stair_at}
use Rattle.rail_model.proofs.Lists.{flat_map-range_more}
use Rattle.conflict_finder.specs.declared.ranked.Ranked.{Ranked}
use Rattle.conflict_finder.specs.declared.run_starts.RunStart.{RunStart}
use Rattle.conflict_finder.specs.Runs.{no_ranked, run_use_of, uses_of, run_uses_in_turn}
use Rattle.conflict_finder.proofs.Laid.{in_any_order}
use Rattle.conflict_finder.proofs.run_starts.by_start.Goals as goal

-- one more of the runs
uses_more : (stairs : List Stair) (runs : List Ranked) (xs ys : List RunStart) (e : RunStart) (i : ℕ) (d : Ranked) → ys ≡ xs ++ e ∷ [] → e.run ≡ i → i < length runs → e.stair ≡ (get_or runs i d).stair
    → run_uses_in_turn stairs xs ≡ flat_map (λ k. map (run_use_of k) (uses_of stairs runs k)) (range_with_len 0 i)
    → run_uses_in_turn stairs ys ≡ flat_map (λ k. map (run_use_of k) (uses_of stairs runs k)) (range_with_len 0 (i + 1))
uses_more stairs runs xs ys e i d pushed run there stair h =
    let f = λ (e : RunStart). map (run_use_of e.run) (stair_at stairs e.stair).uses in
    let piece = λ (k : ℕ). map (run_use_of k) (uses_of stairs runs k) in
    let its : f e ≡ piece i =
    ap (λ s. map (run_use_of e.run) (stair_at stairs s).uses) (stair ∙ ap (λ (r : Ranked). r.stair) (get_or_default runs i d no_ranked there)) ∙ ap (λ k. map (run_use_of k) (uses_of stairs runs i)) run in
    ap (flat_map f) pushed ∙ flat_map-append f xs (e ∷ []) ∙ ap (λ v. flat_map f xs ++ v) (append-nil (f e) ∙ its)
    ∙ ap (λ v. v ++ piece i) h ∙ sym (flat_map-range_more piece i)

pub loop-i-preserved : goal.loop-i-preserved
loop-i-preserved c =
    let stairs = c.args.stairs.now in
    let runs = c.args.runs.now in
    let i = c.loop-i.i in
    let run = c.index-runs-i.result in
    record {
      uses = uses_more stairs runs c.loop-i.starts.items c.push.new.self.items _ i run c.in_ok-push.ensures.items refl c.loop-i-test.true (ap (λ (r : Ranked). r.stair) c.index-runs-i.is) c.loop-i.invariant.uses;
      there = subst (All (λ (e : RunStart). e.stair < length stairs)) (sym c.in_ok-push.ensures.items)
          (All-push (λ (e : RunStart). e.stair < length stairs) c.loop-i.starts.items _ c.loop-i.invariant.there
          (subst (λ (r : Ranked). r.stair < length stairs) (sym c.index-runs-i.is) (c.requires.there i run c.loop-i-test.true)));
    }

pub returns-clause-same : goal.returns-clause-same
returns-clause-same c =
    let stairs = c.args.stairs.now in
    let runs = c.args.runs.now in
    let f = λ (e : RunStart). map (run_use_of e.run) (stair_at stairs e.stair).uses in
    let piece = λ (k : ℕ). map (run_use_of k) (uses_of stairs runs k) in
    let last : c.loop-i.i ≡ length runs = omega (arith, c.loop-i-test.false, c.loop-i.auto.i-end) in
    subst (λ us. IsPermutation us (run_uses_in_turn stairs c.sort_unstable_by_key.new.self.items)) (c.loop-i.invariant.uses ∙ ap (λ n. flat_map piece (range_with_len 0 n)) last)
    (in_any_order f (record { start = pos 0; run = 0; stair = 0 }) c.loop-i.starts.items c.sort_unstable_by_key.new.self.items c.sort_unstable_by_key.ensures.permutation)

pub returns-clause-there : goal.returns-clause-there
returns-clause-there c =
    All-permutation (λ (e : RunStart). e.stair < length c.args.stairs.now) c.loop-i.starts.items c.sort_unstable_by_key.new.self.items c.sort_unstable_by_key.ensures.permutation c.loop-i.invariant.there
