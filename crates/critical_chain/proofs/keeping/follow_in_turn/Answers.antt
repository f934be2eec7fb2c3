use Rattle.std.proofs.Common.{◌≡◌, ◌+◌, ◌-◌, ◌<◌, ◌∙◌, false, length, refl, sym, subst, inl, inr, get_or, rules, arith, to_z, of_z, w64}
use Rattle.std.proofs.lemmas.Bool.{cases_eq, both_ways}
use Rattle.train_order.specs.Visits.{no_visit}
use Rattle.train_order.proofs.InTurn.{is_visit}
use Rattle.critical_chain.specs.Chain.{no_train}
use Rattle.critical_chain.specs.Parts.{MayFollowAt, IsWithin}
use Rattle.critical_chain.proofs.Visited.{starts_within, may, may_back}
use Rattle.critical_chain.proofs.keeping.follow_in_turn.Goals as goal

pub end_of-until-requires-clause-there : goal.end_of-until-requires-clause-there
end_of-until-requires-clause-there c =
    let l : c.loop-k.k - 1 < length c.args.visits.now = omega (arith, c.loop-k-test.true) in
    (is_visit c.args.cut.now c.args.place c.args.visits.now c.requires.visits (c.loop-k.k - 1) l).there

pub end_of-until-requires-clause-moment : goal.end_of-until-requires-clause-moment
end_of-until-requires-clause-moment c =
    let l : c.loop-k.k - 1 < length c.args.visits.now = omega (arith, c.loop-k-test.true) in
    starts_within c.args.cut.now c.args.entries.now c.args.place (get_or c.args.visits.now (c.loop-k.k - 1) no_visit)
    (is_visit c.args.cut.now c.args.place c.args.visits.now c.requires.visits (c.loop-k.k - 1) l) c.requires.sound

pub start_of-from-requires-clause-there : goal.start_of-from-requires-clause-there
start_of-from-requires-clause-there c =
    (is_visit c.args.cut.now c.args.place c.args.visits.now c.requires.visits c.loop-k.k c.loop-k-test.true).there

pub start_of-from-requires-clause-moment : goal.start_of-from-requires-clause-moment
start_of-from-requires-clause-moment c =
    starts_within c.args.cut.now c.args.entries.now c.args.place (get_or c.args.visits.now c.loop-k.k no_visit)
    (is_visit c.args.cut.now c.args.place c.args.visits.now c.requires.visits c.loop-k.k c.loop-k-test.true) c.requires.sound

pub tie-tie-requires : goal.tie-tie-requires
tie-tie-requires c =
    omega (
      arith,
      (is_visit c.args.cut.now c.args.place c.args.visits.now c.requires.visits c.loop-k.k c.loop-k-test.true).there,
      c.requires.placed,
    )

pub may_follow-requires-clause-tie : goal.may_follow-requires-clause-tie
may_follow-requires-clause-tie c =
    let next = is_visit c.args.cut.now c.args.place c.args.visits.now c.requires.visits c.loop-k.k c.loop-k-test.true in
    subst (IsWithin c.args.cut.now) (sym c.tie-tie.ensures)
    (c.requires.ties (get_or c.args.visits.now c.loop-k.k no_visit).member no_train (omega (arith, next.there, c.requires.placed)))

pub returns-then-not-may_follow : goal.returns-then-not-may_follow
returns-then-not-may_follow c =
    let k = c.loop-k.k in
    let visits = c.args.visits.now in
    let placed = c.args.placed.now in
    let first = c.loop-k.auto.k in
    let before : k - 1 + 1 ≡ k = omega (arith, first) in
    let until : to_z w64 (of_z w64 c.end_of-until.result) ≡ c.end_of-until.result = search rules in
    let from : to_z w64 (of_z w64 c.start_of-from.result) ≡ c.start_of-from.result = search rules in (
      λ t. absurd (both_ways false refl t),
      λ turn.
          absurd (both_ways c.may_follow.result c.if-not-may_follow.true (c.may_follow.ensures.1
          (may_back c.args.cut.now c.args.entries.now placed c.args.place c.requires.sound visits c.requires.visits (k - 1) k
          before c.loop-k-test.true _ _ _ (until ∙ c.end_of-until.ensures) (from ∙ c.start_of-from.ensures)
          c.tie-tie.ensures
          (turn (k - 1) (omega (arith, before, c.loop-k-test.true)))))),
    )

pub loop-k-preserved : goal.loop-k-preserved
loop-k-preserved c m l =
    let k = c.loop-k.k in
    let visits = c.args.visits.now in
    let placed = c.args.placed.now in
    let until : to_z w64 (of_z w64 c.end_of-until.result) ≡ c.end_of-until.result = search rules in
    let from : to_z w64 (of_z w64 c.start_of-from.result) ≡ c.start_of-from.result = search rules in
    elim (cases_eq (m + 1) k) [
      | inr ne ↦ c.loop-k.invariant m (omega (arith, l, ne))
      | inl e ↦
          let first = c.loop-k.auto.k in
          let before : k - 1 + 1 ≡ k = omega (arith, first) in
          let same : k - 1 ≡ m = omega (arith, e) in
          subst (MayFollowAt c.args.cut.now c.args.entries.now placed c.args.place visits) same
          (may c.args.cut.now c.args.entries.now placed c.args.place c.requires.sound visits c.requires.visits (k - 1) k before
          c.loop-k-test.true _ _ _ (until ∙ c.end_of-until.ensures) (from ∙ c.start_of-from.ensures)
          c.tie-tie.ensures
          (c.may_follow.ensures.0 c.if-not-may_follow.false))
    ]
