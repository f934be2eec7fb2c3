use Rattle.std.proofs.Common.{◌≡◌, ◌<◌, ℕ, false, inl, inr, sym, subst, ◌∙◌, arith}
use Rattle.std.specs.Prelude.{slice_index_or, pos}
use Rattle.std.proofs.lemmas.Bool.{cases_eq}
use Rattle.std.proofs.lemmas.Slice.Zip.{AllZip-long}
use Rattle.plan_model.specs.declared.cut.CutRow.{CutRow}
use Rattle.plan_model.specs.Members.{member, member_count, no_member}
use Rattle.plan_model.specs.Disorder.{are_opposite}
use Rattle.line_cutter.specs.declared.opposed.StartRange.{StartRange}
use Rattle.line_cutter.specs.Opposed.{IsStartRange}
use Rattle.line_cutter.proofs.Paired.{paired_at}
use Rattle.line_cutter.proofs.Apart.{not_opposite}
use Rattle.line_cutter.proofs.opposed.next_opposite.Goals as goal
use Rattle.line_cutter.proofs.opposed.next_opposite.Goals.{then-meet+else-are_opposed+else-tried-ge-TRIES, else-meet}

abbrev no_range : StartRange
no_range = record { first = pos 0; last = pos 0 }

pub bounds-ranges-i : goal.bounds-ranges-i
bounds-ranges-i c =
    omega (arith, AllZip-long (λ (row : CutRow) (range : StartRange). IsStartRange row.uses range) c.args.cut.now.rows c.args.ranges.now c.requires.ranges, c.requires.there)

pub bounds-ranges-j : goal.bounds-ranges-j
bounds-ranges-j c =
    omega (
      arith,
      AllZip-long (λ (row : CutRow) (range : StartRange). IsStartRange row.uses range) c.args.cut.now.rows c.args.ranges.now c.requires.ranges,
      c.loop-j-test.true,
      c.member_count-count.ensures.count,
    )

pub loop-j-preserved : goal.loop-j-preserved
loop-j-preserved c =
    let cut = c.args.cut.now in
    let ranges = c.args.ranges.now in
    let i = c.args.i in
    let j = c.loop-j.j in
    let there : j < member_count cut = omega (arith, c.loop-j-test.true, c.member_count-count.ensures.count) in
    let ranged : (k : ℕ) → k < member_count cut → IsStartRange (member cut k).uses (slice_index_or ranges k no_range) =
    λ k l. paired_at (λ (row : CutRow) (range : StartRange). IsStartRange row.uses range) cut.rows ranges k no_member no_range c.requires.ranges l in
    let here : are_opposite cut i j ≡ false =
    elim c.if-meet.branch [
      | then-meet+else-are_opposed+else-tried-ge-TRIES w ↦ sym w.are_opposed.ensures ∙ w.if-are_opposed.false
      | else-meet w ↦
          not_opposite cut i j (slice_index_or ranges i no_range) (slice_index_or ranges j no_range) (ranged i c.requires.there)
          (ranged j there) (sym c.meet.ensures ∙ w.if-meet.false)
    ] in
    λ k lk ln. elim (cases_eq k j) [
      | inl e ↦ subst (λ m. are_opposite cut i m ≡ false) (sym e) here
      | inr n ↦ c.loop-j.invariant k lk (omega (arith, ln, n))
    ]
