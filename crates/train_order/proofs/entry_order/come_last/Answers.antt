use Rattle.std.proofs.Common.{◌≡◌, ◌<◌, true, List, length, take, get_or, set, rules, sym, subst, ◌∙◌, ◌+◌, arith, length-set, to_z, of_z, w64}
use Rattle.std.specs.Prelude.{ℤ}
use Rattle.std.proofs.lemmas.List.{take_more}
use Rattle.plan_model.specs.Members.{no_use}
use Rattle.train_order.specs.declared.entry_order.Moment.{Moment}
use Rattle.train_order.specs.Visits.{is_earlier}
use Rattle.train_order.specs.EntryOrder.{pair_of, last_at, moment_of}
use Rattle.train_order.specs.OutOfTurn.{ComesLast, Rise}
use Rattle.train_order.proofs.Before.{never_itself}
use Rattle.train_order.proofs.Following.{rise_more, comes_more}
use Rattle.train_order.proofs.entry_order.come_last.Goals as goal

pub loop-one-init : goal.loop-one-init
loop-one-init c = record {
  count = search rules;
  rise = λ place. never_itself (pair_of (last_at c.args.last.now place));
  comes = record { later = λ k d l. absurd (omega (arith, l)); last = λ k d l. absurd (omega (arith, l)) };
}

pub loop-one-preserved : goal.loop-one-preserved
loop-one-preserved c =
    let k = c.loop-one.one-index in
    let i = c.args.member in
    let first = c.args.last.now in
    let last = c.loop-one.last in
    let uses = c.args.uses.now in
    let u = get_or uses k no_use in
    let inv = c.loop-one.invariant in
    let cast : to_z w64 (of_z w64 u.start) ≡ u.start = search rules in
    let there : u.block < length last = omega (arith, c.requires k no_use c.loop-one-test.true, inv.count) in
    let next : is_earlier (pair_of (last_at last u.block)) (u.start, i) ≡ true =
    subst (λ s. is_earlier (pair_of (last_at last u.block)) (s, i) ≡ true) cast (sym c.comes_after.ensures ∙ c.if-not-comes_after.false) in
    let at_time : ℤ → List Moment = λ s. set last u.block (record { time = s; member = i }) in
    let comes : ComesLast first (set last u.block (moment_of i u)) i (take (k + 1) uses) =
    subst (ComesLast first (set last u.block (moment_of i u)) i) (sym (take_more uses k no_use c.loop-one-test.true))
    (comes_more first last i (take k uses) u there inv.rise next inv.comes) in
    record {
      count = length-set last u.block _ ∙ inv.count;
      rise = subst (λ s. Rise first (at_time s)) (sym cast) (rise_more first last i (take k uses) u there inv.rise next);
      comes = subst (λ s. ComesLast first (at_time s) i (take (k + 1) uses)) (sym cast) comes;
    }
