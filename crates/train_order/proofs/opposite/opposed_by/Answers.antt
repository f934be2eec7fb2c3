use Rattle.std.proofs.Common.{◌≡◌, ℕ, ◌+◌, ◌-◌, ◌<◌, ◌≤◌, false, true, List, inl, inr, subst, sym, ◌∙◌, arith}
use Rattle.std.proofs.lemmas.Bool.{cases_lt, cases_eq, and_left, and_right, and_from}
use Rattle.train_order.specs.declared.member_set.MemberSet.{MemberSet}
use Rattle.train_order.specs.Sets.{IsFirstMember, relates, no_set}
use Rattle.train_order.specs.Opposite.{oppose}
use Rattle.std.specs.Prelude.{slice_index_or}
use Rattle.train_order.proofs.Find.{none_found, first_found}
use Rattle.train_order.proofs.opposite.opposed_by.Goals as goal

-- from one member of the set on to the next none is opposed
none_on : (sets : List MemberSet) (i from next : ℕ) → IsFirstMember (slice_index_or sets i no_set).words from next
    → (k : ℕ) → from ≤ k → k < next → oppose sets i k ≡ false
none_on sets i from next first k lk ln = and_right (relates sets i k) (relates sets k i) (first.none k lk ln)

pub loop-j-init : goal.loop-j-init
loop-j-init c =
    let first = c.next-j.ensures in
    record {
      from_on = first.from_on;
      none = none_on c.args.sets.now c.args.i c.args.from c.next-j.result first;
      there = first.there;
    }

pub loop-j-preserved : goal.loop-j-preserved
loop-j-preserved c =
    let sets = c.args.sets.now in
    let i = c.args.i in
    let j = c.loop-j.j in
    let so_far = c.loop-j.invariant in
    let first = c.next-j-in-loop-j.ensures in
    record {
      from_on = omega (arith, so_far.from_on, first.from_on);
      none = λ k lk ln. elim (cases_lt k j) [
        | inl a ↦ so_far.none k lk a
        | inr b ↦ elim (cases_eq k j) [
          | inl e ↦
              subst (λ m. oppose sets i m ≡ false) (sym e)
              (and_left (relates sets i j) (relates sets j i) (sym c.has.ensures ∙ c.if-has.false))
          | inr apart ↦ none_on sets i (j + 1) c.next-j-in-loop-j.result first k (omega (arith, b, apart)) ln
        ]
      ];
      there = first.there;
    }

pub returns-then-has : goal.returns-then-has
returns-then-has c =
    let sets = c.args.sets.now in
    let i = c.args.i in
    let j = c.loop-j.j in
    let so_far = c.loop-j.invariant in
    let low : c.args.from ≤ j = so_far.from_on in
    let there : relates sets j i ≡ true = so_far.there (omega (arith, c.loop-j-test.true, c.requires.within, c.requires.few)) in
    sym (first_found (oppose sets i) c.args.from (c.args.until - c.args.from) j low (omega (arith, c.loop-j-test.true)) so_far.none
    (and_from (relates sets i j) (relates sets j i) (sym c.has.ensures ∙ c.if-has.true) there))

pub returns : goal.returns
returns c =
    sym (none_found (oppose c.args.sets.now c.args.i) c.args.from (c.args.until - c.args.from) (λ k lk ln.
    c.loop-j.invariant.none k lk (omega (arith, c.loop-j-test.false))))
