use Rattle.std.proofs.Common.{◌≡◌, ◌≤◌, ◌&&◌, Bool, true, Some, get_or, refl, sym, ap, ◌∙◌, subst, rules, arith}
use Rattle.std.specs.Prelude.{All, is_some}
use Rattle.std.proofs.lemmas.List.Elements.{All-replicate}
use Rattle.std.proofs.lemmas.List.Folds.{list_all_more}
use Rattle.delay_spread.specs.declared.spreading.TheConstants.{GREATEST_DELAY_S}
use Rattle.plan_model.specs.Members.{member_count}
use Rattle.capacity_cmd.specs.declared.given_delay.GivenDelay.{GivenDelay}
use Rattle.capacity_cmd.specs.Ends.{row_named, SetsDelay}
use Rattle.capacity_cmd.proofs.Members.{none_given, set_more}
use Rattle.capacity_cmd.proofs.delays.set_delays.Goals as goal

pub loop-one-init : goal.loop-one-init
loop-one-init c =
    let cut = c.args.cut.now in
    record {
      set = c.requires.none ∙ none_given cut;
      members = refl;
      limit = subst (All (λ s. s ≤ GREATEST_DELAY_S)) (sym c.requires.none)
          (All-replicate (λ s. s ≤ GREATEST_DELAY_S) (member_count cut) 0 (omega arith));
    }

pub loop-one-preserved : goal.loop-one-preserved
loop-one-preserved c =
    let cut = c.args.cut.now in
    let given = c.args.given.now in
    let i = c.loop-one.one-index in
    let d = c.one-item.result in
    let done : c.set_delay.result ≡ true = search rules in
    let is_member = λ (d : GivenDelay). is_some (row_named cut (Some d.run)) in
    let sets = subst (λ b. SetsDelay cut d b c.loop-one.delays c.set_delay.new.delays) done c.set_delay.ensures in
    record {
      set = set_more cut given i d c.loop-one.delays c.set_delay.new.delays c.requires.sound c.loop-one-test.true
          (sym c.one-item.is) c.loop-one.invariant.set sets;
      members = list_all_more is_member given i d c.loop-one-test.true
          ∙ ap (λ (b : Bool). b && is_member (get_or given i d)) c.loop-one.invariant.members
          ∙ ap is_member (sym c.one-item.is) ∙ sym sets.member;
      limit = c.set_delay.ensures.limit c.loop-one.invariant.limit;
    }
