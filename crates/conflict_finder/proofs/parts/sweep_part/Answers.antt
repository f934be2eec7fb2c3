use Rattle.std.proofs.Common.{◌+◌, ◌-◌, ◌*◌, ◌≡◌, length, drop, ap, subst, ◌∙◌, arith}
use Rattle.std.proofs.lemmas.List.{length-take, length-drop}
use Rattle.std.proofs.Math.Nat.{add-mul, one-mul}
use Rattle.rayon.proofs.ListFacts.{IfOk-then}
use Rattle.conflict_finder.specs.Runs.{run_uses_in_turn}
use Rattle.conflict_finder.specs.ByBlock.{one_after_another, AreUsesFrom}
use Rattle.conflict_finder.specs.ByNumber.{IsListed, IsFoundInPart, first_of, met_in_turn}
use Rattle.conflict_finder.proofs.Laid.{few_laid}
use Rattle.conflict_finder.proofs.parts.sweep_part.Goals as goal

pub sweep-requires-clause-most : goal.sweep-requires-clause-most
sweep-requires-clause-most c =
    omega (
      arith,
      ap length (ap one_after_another c.deref.ensures.value),
      c.requires.most,
      few_laid (length c.args.room.now - 1) c.min-first.result (run_uses_in_turn c.args.stairs.now c.args.starts.now) c.in_ok-by_block.by_block.items c.in_ok-by_block.ensures.uses,
    )

pub returns : goal.returns
returns c =
    let lists = length c.args.room.now in
    let run_uses = run_uses_in_turn c.args.stairs.now c.args.starts.now in
    let by_block = c.in_ok-by_block.by_block.items in
    let first : c.min-first.result ≡ first_of lists c.args.size c.args.part = omega (arith, c.min-first.ensures, c.saturating_mul.ensures) in
    let next : (c.args.part + 1) * c.args.size ≡ c.args.part * c.args.size + c.args.size = add-mul c.args.part 1 c.args.size ∙ ap (λ n. c.args.part * c.args.size + n) (one-mul c.args.size) in
    IfOk-then c.sweep.result _ (IsFoundInPart lists c.args.size run_uses c.args.part) c.sweep.ensures (λ found listed. record {
      by_block = by_block;
      count = omega (arith, c.min-first.ensures, c.saturating_mul.ensures, c.saturating_add.ensures, c.min-end.ensures, next, c.in_ok-by_block.ensures.count, length-take (c.min-end.result - c.min-first.result) (drop c.min-first.result c.args.room.now), length-drop c.min-first.result c.args.room.now);
      uses = subst (λ place. AreUsesFrom (lists - 1) place run_uses by_block) first c.in_ok-by_block.ensures.uses;
      sorted = c.in_ok-by_block.ensures.order;
      listed = subst (λ s. IsListed (met_in_turn s) found) c.deref.ensures.value listed;
    })
