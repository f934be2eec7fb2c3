use Rattle.std.proofs.Common.{◌≡◌, sym, ap, ◌∙◌, arith, rules, to_z, of_z, w64}
use Rattle.std.specs.Prelude.{◌+ℤ◌, ◌-ℤ◌}
use Rattle.plan_model.specs.Members.{member, member_count, use_of}
use Rattle.plan_model.specs.Schedule.{entry_at}
use Rattle.critical_chain.specs.Parts.{later, member_of, latest_upto}
use Rattle.critical_chain.proofs.Visited.{latest_with, latest_without}
use Rattle.critical_chain.proofs.LastMember.{last_member_is}
use Rattle.critical_chain.proofs.last.last_at.Goals as goal
use Rattle.critical_chain.proofs.last.last_at.Goals.{in-Some, in_default}

pub loop-i-preserved : goal.loop-i-preserved
loop-i-preserved c =
    let cut = c.args.cut.now in
    let entries = c.args.entries.now in
    let block = c.args.block in
    let i = c.loop-i.i in
    let here = ap (λ k. use_of (member k i) block) (sym c.sound.ensures.cut) in
    elim c.match-use_at.branch [
      | in-Some w ↦
          let one = w.in-Some.one in
          let end : to_z w64 (of_z w64 one.«end») ≡ one.«end» = search rules in
          let until : to_z w64 (of_z w64 w.moved.result) ≡ w.moved.result = search rules in
          w.latest-is
          ∙ w.later-latest.ensures
          ∙ ap (later c.loop-i.latest i) (until ∙ w.moved.ensures.is ∙ ap (λ t. t -ℤ (member cut i).entry +ℤ entry_at entries i) end)
          ∙ ap (λ o. later o i (one.«end» -ℤ (member cut i).entry +ℤ entry_at entries i)) c.loop-i.invariant
          ∙ sym (latest_with cut entries block i one (here ∙ sym w.in-Some.ensures.is))
      | in_default w ↦
          w.latest-is ∙ c.loop-i.invariant ∙ sym (latest_without cut entries block i (here ∙ sym w.in_default.ensures.is))
    ]

pub returns : goal.returns
returns c =
    let n : c.loop-i.i ≡ member_count c.args.cut.now = omega (arith, c.loop-i-test.false, c.loop-i.auto.i-end, c.member_count-i-end.ensures.count) in
    c.member_of.ensures
    ∙ ap member_of c.loop-i.invariant
    ∙ ap (λ k. member_of (latest_upto c.args.cut.now c.args.entries.now c.args.block k)) n
    ∙ last_member_is c.args.cut.now c.args.entries.now c.args.block
