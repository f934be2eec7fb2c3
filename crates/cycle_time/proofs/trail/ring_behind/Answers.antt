use Rattle.std.proofs.Common.{◌≡◌, ◌==◌, ◌∙◌, ◌++◌, ◌∷◌, [], ℕ, drop, map, length, length-append, sym, ap, subst, arith}
use Rattle.std.specs.List.{position_or_len}
use Rattle.std.proofs.lemmas.List.{take_all, length-drop}
use Rattle.cycle_time.specs.Rings.{to_of, GoesRound}
use Rattle.cycle_time.proofs.Behind.{IsTrail, trail_more, ends_at, goes_round, short}
use Rattle.cycle_time.proofs.trail.ring_behind.Goals as goal

pub returns-then-from-len : goal.returns-then-from-len
returns-then-from-len c =
    let causes = c.args.causes.now in
    let trail = c.loop-train.trail.items in
    let found : c.place_of-from.result ≡ position_or_len (λ t. t == c.loop-train.train) (map to_of trail) =
    c.place_of-from.ensures ∙ ap (λ es. position_or_len (λ (t : ℕ). t == c.loop-train.train) (map to_of es)) c.deref.ensures.value in
    subst (GoesRound causes)
    (sym (c.from_vec.ensures ∙ c.in_ok-ring.ensures.items
    ∙ take_all _ (drop c.place_of-from.result c.deref-then-from-len.result.now) (omega (arith, length-drop c.place_of-from.result c.deref-then-from-len.result.now))
    ∙ ap (drop c.place_of-from.result) c.deref-then-from-len.ensures.value))
    (goes_round causes c.requires.causes c.args.top trail c.loop-train.train c.place_of-from.result c.requires.there
    c.loop-train.invariant found (omega (arith, c.if-from-len.true, c.len.ensures)))

pub loop-train-smaller : goal.loop-train-smaller
loop-train-smaller c =
    let causes = c.args.causes.now in
    let trail = c.loop-train.trail.items in
    let e = c.in-Some.demand in
    let found : c.place_of-from.result ≡ position_or_len (λ t. t == c.loop-train.train) (map to_of trail) =
    c.place_of-from.ensures ∙ ap (λ es. position_or_len (λ (t : ℕ). t == c.loop-train.train) (map to_of es)) c.deref.ensures.value in
    let more = trail_more causes c.requires.causes c.args.top trail c.loop-train.train e c.place_of-from.result
    c.loop-train.invariant c.in-Some.is found (omega (arith, c.if-from-len.false, c.len.ensures)) in
    omega (
      arith,
      short causes c.requires.causes c.args.top (trail ++ e ∷ []) e.step.from more,
      length-append trail (e ∷ []),
      ap length c.in_ok-push.ensures.items,
    )

pub loop-train-preserved : goal.loop-train-preserved
loop-train-preserved c =
    let causes = c.args.causes.now in
    let trail = c.loop-train.trail.items in
    let e = c.in-Some.demand in
    let found : c.place_of-from.result ≡ position_or_len (λ t. t == c.loop-train.train) (map to_of trail) =
    c.place_of-from.ensures ∙ ap (λ es. position_or_len (λ (t : ℕ). t == c.loop-train.train) (map to_of es)) c.deref.ensures.value in
    let more = trail_more causes c.requires.causes c.args.top trail c.loop-train.train e c.place_of-from.result
    c.loop-train.invariant c.in-Some.is found (omega (arith, c.if-from-len.false, c.len.ensures)) in
    subst (λ es. IsTrail causes c.args.top es e.step.from) (sym c.in_ok-push.ensures.items) more

pub returns : goal.returns
returns c =
    ends_at c.args.causes.now c.requires.causes c.args.top c.loop-train.trail.items c.loop-train.train c.loop-train.invariant
    c.in_default.is
