use Rattle.std.proofs.Common.{◌≡◌, ◌<◌, List, ℕ, not, length, drop, sym, ap, subst, ◌∙◌, arith}
use Rattle.std.specs.Prelude.{reverse}
use Rattle.plan_model.specs.Disorder.{from_least}
use Rattle.train_order.specs.Sets.{holds}
use Rattle.train_order.specs.Taking.{is_among, left_in, left_of}
use Rattle.train_order.specs.Walk.{ArePrecededWithin, IsRound}
use Rattle.train_order.proofs.Ranges.{same_passing}
use Rattle.train_order.proofs.Ringed.{some_left, within, walk_is_short}
use Rattle.train_order.proofs.ring.ring_members.Goals as goal

-- those that aren't gone are those that are left
same : (n : ℕ) (words taken : List ℕ) → ((k : ℕ) → holds words k ≡ is_among taken k) → left_in n words ≡ left_of n taken
same n words taken h =
    same_passing (λ i. not (is_among taken i)) (λ i. not (holds words i)) 0 n (λ i l m. ap not (h i))

pub walk_back-walk-requires-clause-some : goal.walk_back-walk-requires-clause-some
walk_back-walk-requires-clause-some c =
    subst (λ (ls : List ℕ). 0 < length ls) (sym (same (length c.args.sets.now) _ c.args.taken.now c.set_of-gone.ensures))
    (some_left c.args.sets.now c.args.taken.now c.requires.taken c.requires.some)

pub walk_back-walk-requires-clause-preceded : goal.walk_back-walk-requires-clause-preceded
walk_back-walk-requires-clause-preceded c =
    subst (λ ls. ArePrecededWithin c.args.sets.now ls) (sym (same (length c.args.sets.now) _ c.args.taken.now c.set_of-gone.ensures))
    (within c.args.sets.now c.args.taken.now c.requires.taken c.requires.some)

-- the round that is walked
abbrev found : (c : goal.After-slice) → IsRound c.args.sets.now (left_of (length c.args.sets.now) c.args.taken.now) c.walk_back-walk.result.0 c.walk_back-walk.result.1
found c =
    subst (λ ls. IsRound c.args.sets.now ls c.walk_back-walk.result.0 c.walk_back-walk.result.1)
    (same (length c.args.sets.now) _ c.args.taken.now c.set_of-gone.ensures) c.walk_back-walk.ensures

pub turn_round-requires-clause-few : goal.turn_round-requires-clause-few
turn_round-requires-clause-few c =
    let short = walk_is_short c.args.sets.now c.args.taken.now c.requires.taken c.requires.some c.walk_back-walk.result.0 c.walk_back-walk.result.1 (found c) in
    omega (arith, short, ap length c.slice.ensures, c.requires.few)

pub returns : goal.returns
returns c = record {
  walk = c.walk_back-walk.result.0;
  from = c.walk_back-walk.result.1;
  round =
      subst (λ ls. IsRound c.args.sets.now ls c.walk_back-walk.result.0 c.walk_back-walk.result.1)
      (same (length c.args.sets.now) _ c.args.taken.now c.set_of-gone.ensures) c.walk_back-walk.ensures;
  is = c.turn_round.ensures ∙ ap (λ w. from_least (reverse (drop c.walk_back-walk.result.1 w))) c.slice.ensures;
}
