use Rattle.std.proofs.Common.{◌≡◌, ◌<◌, ◌==◌, ◌++◌, ◌∷◌, [], Bool, List, ℕ, true, false, length, sym, ap, subst, ◌∙◌, arith, length-append}
use Rattle.std.specs.List.{position_or_len}
use Rattle.std.proofs.lemmas.Bool.{both_ways}
use Rattle.train_order.specs.declared.member_set.MemberSet.{MemberSet}
use Rattle.train_order.specs.Sets.{holds}
use Rattle.train_order.specs.Taking.{is_among, left_in}
use Rattle.train_order.specs.Walk.{step, ArePrecededWithin, IsWalk}
use Rattle.train_order.proofs.Among.{among_put}
use Rattle.train_order.proofs.Walks.{walk_first, walk_more, walk_short, not_there, came_there}
use Rattle.train_order.proofs.ring.walk_back.Goals as goal

-- the members that are left
abbrev left : List MemberSet → MemberSet → List ℕ
left sets gone = left_in (length sets) gone.words

pub loop-walked-init : goal.loop-walked-init
loop-walked-init c =
    let sets = c.args.sets.now in
    let some = left sets c.args.gone.now in
    record {
      is_walk =
          subst (λ w. IsWalk sets some w c.first_left-next.result) (sym c.new-walk.ensures)
          (subst (IsWalk sets some []) (sym c.first_left-next.ensures)
          (walk_first sets some c.requires.preceded c.requires.some));
      walked = λ k. c.new-walked.ensures k ∙ ap (λ w. is_among w k) (sym c.new-walk.ensures);
    }

-- the next member is one of those that are left
there : (sets : List MemberSet) (some walk : List ℕ) (next : ℕ) → ArePrecededWithin sets some → IsWalk sets some walk next
    → next < length sets
there sets some walk next preceded so_far = preceded.there next so_far.after_within

pub has-requires : goal.has-requires
has-requires c =
    omega (arith, there c.args.sets.now _ c.loop-walked.walk c.loop-walked.next c.requires.preceded c.loop-walked.invariant.is_walk, c.requires.few)

pub insert-requires : goal.insert-requires
insert-requires c =
    omega (arith, there c.args.sets.now _ c.loop-walked.walk c.loop-walked.next c.requires.preceded c.loop-walked.invariant.is_walk, c.requires.few)

pub step-next-requires-clause-there : goal.step-next-requires-clause-there
step-next-requires-clause-there c =
    there c.args.sets.now _ c.loop-walked.walk c.loop-walked.next c.requires.preceded c.loop-walked.invariant.is_walk

pub step-next-requires-clause-preceded : goal.step-next-requires-clause-preceded
step-next-requires-clause-preceded c = c.requires.preceded.preceded c.loop-walked.next c.loop-walked.invariant.is_walk.after_within

-- the walk with one member more, where that isn't there yet
more : (sets : List MemberSet) (some walk words : List ℕ) (next : ℕ) (has : Bool) → ArePrecededWithin sets some
    → IsWalk sets some walk next → ((k : ℕ) → holds words k ≡ is_among walk k) → has ≡ holds words next → has ≡ false
    → IsWalk sets some (walk ++ next ∷ []) (step sets some next)
more sets some walk words next has preceded so_far walked is e =
    walk_more sets some preceded walk next so_far (sym (walked next) ∙ sym is ∙ e)

-- so it is short
short : (sets : List MemberSet) (some walk words : List ℕ) (next : ℕ) (has : Bool) → ArePrecededWithin sets some
    → IsWalk sets some walk next → ((k : ℕ) → holds words k ≡ is_among walk k) → has ≡ holds words next → has ≡ false
    → length walk < length sets
short sets some walk words next has preceded so_far walked is e =
    omega (
      arith,
      walk_short sets some preceded (walk ++ next ∷ []) (step sets some next) (more sets some walk words next has preceded so_far walked is e),
      length-append walk (next ∷ []),
    )

pub push-requires : goal.push-requires
push-requires c =
    let inv = c.loop-walked.invariant in
    omega (
      arith,
      short c.args.sets.now (left c.args.sets.now c.args.gone.now) c.loop-walked.walk c.loop-walked.walked.words c.loop-walked.next
          c.has.result c.requires.preceded inv.is_walk inv.walked c.has.ensures c.loop-walked-test.true,
      c.requires.few,
    )

pub loop-walked-smaller : goal.loop-walked-smaller
loop-walked-smaller c =
    let inv = c.loop-walked.invariant in
    omega (
      arith,
      short c.args.sets.now (left c.args.sets.now c.args.gone.now) c.loop-walked.walk c.loop-walked.walked.words c.loop-walked.next
          c.has.result c.requires.preceded inv.is_walk inv.walked c.has.ensures c.loop-walked-test.true,
      ap length c.push.ensures,
      length-append c.loop-walked.walk (c.loop-walked.next ∷ []),
    )

pub loop-walked-preserved : goal.loop-walked-preserved
loop-walked-preserved c =
    let inv = c.loop-walked.invariant in
    let sets = c.args.sets.now in
    let some = left sets c.args.gone.now in
    let walk = c.loop-walked.walk in
    let next = c.loop-walked.next in
    record {
      is_walk =
          subst (λ w. IsWalk sets some w c.step-next.result) (sym c.push.ensures)
          (subst (λ m. IsWalk sets some (walk ++ next ∷ []) m) (sym c.step-next.ensures)
          (more sets some walk c.loop-walked.walked.words next c.has.result c.requires.preceded inv.is_walk inv.walked c.has.ensures c.loop-walked-test.true));
      walked = λ k.
          among_put (λ k. k) c.loop-walked.walked.words c.insert.new.self.words walk next inv.walked c.insert.ensures k
          ∙ ap (λ w. is_among w k) (sym c.push.ensures);
    }

pub returns : goal.returns
returns c =
    let inv = c.loop-walked.invariant in
    let sets = c.args.sets.now in
    let some = left sets c.args.gone.now in
    let walk = c.loop-walked.walk in
    let next = c.loop-walked.next in
    let there : is_among walk next ≡ true = sym (inv.walked next) ∙ sym c.has.ensures ∙ c.loop-walked-test.false in
    let from = c.place_in-from.ensures ∙ ap (position_or_len (λ m. m == next)) c.slice.ensures in
    let came = came_there walk next c.place_in-from.result from (λ e. both_ways _ (not_there walk next (sym from ∙ e)) there) in
    record { is_walk = subst (λ m. IsWalk sets some walk m) (sym came.1) inv.is_walk; came = came.0 }
