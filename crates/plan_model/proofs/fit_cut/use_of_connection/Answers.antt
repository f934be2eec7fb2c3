use Rattle.std.proofs.Common.{◌-◌, ◌<◌, length, inl, inr, sym, rules, arith}
use Rattle.std.proofs.lemmas.Bool.{cases_lt}
use Rattle.plan_model.proofs.UseFound.{found_at, not_found, blocks_before}
use Rattle.plan_model.proofs.fit_cut.use_of_connection.Goals as goal

pub returns-then-one-place : goal.returns-then-one-place
returns-then-one-place c =
    let inv = c.loop-left.invariant in
    let within : c.loop-left.left - 1 < length c.args.uses.now = omega (arith, inv.within, c.loop-left-test.true) in
    let is = sym (found_at c.args.place c.args.uses.now (c.loop-left.left - 1) c.requires.differ within c.if-one-place.true) in
    search rules

pub returns-then-one-blocks : goal.returns-then-one-blocks
returns-then-one-blocks c =
    let inv = c.loop-left.invariant in
    sym (not_found c.args.place c.args.uses.now (λ k l. elim (cases_lt k c.loop-left.left) [
      | inl lt ↦ λ e. omega (
        arith,
        e,
        c.requires.behind,
        blocks_before c.args.blocks c.args.uses.now c.requires.first k (c.loop-left.left - 1) (omega (arith, lt))
            (omega (arith, inv.within, c.loop-left-test.true)) c.if-one-blocks.true,
      )
      | inr ge ↦ inv.none k ge l
    ]))

pub returns : goal.returns
returns c =
    sym (not_found c.args.place c.args.uses.now (λ k l. c.loop-left.invariant.none k (omega (arith, c.loop-left-test.false)) l))
