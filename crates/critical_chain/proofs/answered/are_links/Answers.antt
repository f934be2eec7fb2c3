use Rattle.std.proofs.Common.{false, length, refl, sym, ap, ◌∙◌, arith}
use Rattle.std.proofs.lemmas.Bool.{both_ways}
use Rattle.critical_chain.proofs.RingLinks.{long, one_more, its_link, all_links}
use Rattle.critical_chain.proofs.answered.are_links.Goals as goal

pub returns-then-links-members : goal.returns-then-links-members
returns-then-links-members c = (
  λ t. absurd (both_ways false refl t),
  λ e. absurd (c.if-links-members.true (ap length e ∙ long c.args.cut.now c.args.members.now c.requires.ring.some)),
)

pub returns-then-not-is_link : goal.returns-then-not-is_link
returns-then-not-is_link c = (
  λ t. absurd (both_ways false refl t),
  λ e.
      absurd (both_ways c.is_link.result c.if-not-is_link.true
      (c.is_link.ensures.1 (c.index-links-k.is
      ∙ its_link c.args.cut.now c.args.members.now c.requires.ring.some c.args.links.now c.loop-k.k c.next_place-next.result
      c.index-links-k.result (omega (arith, c.loop-k-test.true, c.if-links-members.false)) c.next_place-next.ensures.within
      c.next_place-next.ensures.next c.loop-k-test.true e))),
)

pub loop-k-preserved : goal.loop-k-preserved
loop-k-preserved c =
    one_more c.args.cut.now c.args.members.now c.requires.ring.some c.args.links.now c.loop-k.k c.next_place-next.result
    c.index-links-k.result (omega (arith, c.loop-k-test.true, c.if-links-members.false)) c.next_place-next.ensures.within
    c.next_place-next.ensures.next c.loop-k-test.true c.loop-k.invariant
    (sym c.index-links-k.is ∙ c.is_link.ensures.0 c.if-not-is_link.false)

pub returns : goal.returns
returns c = (
  λ t.
      all_links c.args.cut.now c.args.members.now c.requires.ring.some c.args.links.now c.loop-k.k
      (omega (arith, c.loop-k-test.false, c.if-links-members.false)) c.if-links-members.false c.loop-k.invariant,
  λ e. refl,
)
