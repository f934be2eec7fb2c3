use Rattle.std.proofs.Common.{◌≡◌, ◌+◌, ◌<◌, length, get_or, ap, ◌∙◌, subst, arith}
use Rattle.std.specs.Prelude.{find}
use Rattle.std.specs.Option.{option_copied}
use Rattle.std.proofs.lemmas.List.{length-map, length-set, get_or_default, get_or-set_other}
use Rattle.rail_model.specs.Name.{is_same}
use Rattle.plan_model.specs.declared.cut.CutRow.{CutRow}
use Rattle.plan_model.specs.Cut.{stamped_row}
use Rattle.plan_model.specs.Members.{no_member}
use Rattle.section_cut.specs.Stamps.{IsReached, IsStamped, IsStampedBy}
use Rattle.section_cut.proofs.Restamped.{value_kept, stamps_more}
use Rattle.section_cut.proofs.Rows.{before_later}
use Rattle.section_cut.proofs.SameValue.{rows_rise}
use Rattle.section_cut.proofs.stamps.keep_stamps.Goals as goal

pub loop-i-preserved : goal.loop-i-preserved
loop-i-preserved c =
    let rows = c.loop-i.rows in
    let old = c.args.old.now in
    let i = c.loop-i.i in
    let row = c.index-slice-i.result in
    let kept = c.loop-i.invariant.value in
    let within : i < length rows =
    omega (arith, ap length kept, length-map rows (stamped_row 0), length-map c.args.rows.now (stamped_row 0)) in
    let is : row ≡ get_or rows i no_member =
    c.index-slice-i.is ∙ ap (λ rs. get_or rs i row) c.slice.ensures ∙ get_or_default rows i row no_member within in
    let stamp = c.stamp_of-stamp.result in
    let own : option_copied c.next_row-own.result ≡ find (λ (r : CutRow). is_same r.name row.name) old.rows =
    c.next_row-own.ensures.own ∙ ap (find (λ (r : CutRow). is_same r.name row.name)) c.slice-in-loop-i.ensures in
    let one : IsStampedBy c.args.number old.rows (stamped_row stamp (get_or rows i no_member)) =
    subst (λ r. IsStampedBy c.args.number old.rows (stamped_row stamp r)) is
    (subst (λ o. IsStamped c.args.number o (stamped_row stamp row)) own c.stamp_of-stamp.ensures) in
    let rise = rows_rise c.args.rows.now rows kept c.requires.rise in
    rw c.set_stamp.ensures
    (record {
      value = value_kept c.args.number old rows i stamp within ∙ kept;
      stamps = stamps_more c.args.number old rows i stamp within c.loop-i.invariant.stamps one;
      before = λ next.
          let there : i + 1 < length rows = omega (arith, next, length-set rows i (stamped_row stamp (get_or rows i no_member))) in
          let other : i + 1 ≡ i → ⊥ = λ e. omega arith in
          rw (get_or-set_other rows i (i + 1) (stamped_row stamp (get_or rows i no_member)) no_member other)
          (before_later old.rows (get_or rows i no_member).name c.next_row-own.new.at c.requires.old_rise
          (subst (λ (r : CutRow). IsReached old.rows r.name c.next_row-own.new.at) is
          (subst (λ rs. IsReached rs row.name c.next_row-own.new.at) c.slice-in-loop-i.ensures c.next_row-own.ensures.at))
          (get_or rows (i + 1) no_member).name (rise i (i + 1) no_member (omega arith) there));
    })
