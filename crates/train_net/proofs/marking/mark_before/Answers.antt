use Rattle.std.proofs.Common.{◌<◌, length, sym, ap, subst, ◌∙◌, arith}
use Rattle.std.specs.Prelude.{All, IfSome, None, slice_index_or}
use Rattle.rail_model.specs.declared.stair.Use.{Use}
use Rattle.plan_model.specs.declared.cut.CutRow.{CutRow}
use Rattle.train_net.specs.Net.{standing}
use Rattle.train_net.proofs.Used.{all_there}
use Rattle.train_net.proofs.Marks.{IsFoundMarked, marked_at}
use Rattle.train_net.proofs.marking.mark_before.Goals as goal

pub mark_all-requires-clause-trains : goal.mark_all-requires-clause-trains
mark_all-requires-clause-trains c =
    let near = c.in_ok-near.near.items in
    let marks = c.args.marks.now in
    let uses = (standing c.args.cut.now c.args.order.now c.args.at).uses in
    let row = c.slice.ensures ∙ ap (λ (r : CutRow). r.uses) c.row.ensures.row in
    subst (λ us. All (λ (u : Use). IfSome (slice_index_or c.deref.result.now u.block None) (λ x. x.train < length marks)) us) (sym row)
    (subst (λ ns. All (λ (u : Use). IfSome (slice_index_or ns u.block None) (λ x. x.train < length marks)) uses) (sym c.deref.ensures.value)
    (subst (λ n. All (λ (u : Use). IfSome (slice_index_or near u.block None) (λ x. x.train < n)) uses) (sym c.requires.count)
    (all_there c.args.cut.now c.args.order.now c.args.at near (omega (arith, c.requires.within)) c.requires.there
    c.in_ok-near.ensures.near)))

pub returns-clause-marked : goal.returns-clause-marked
returns-clause-marked c =
    let near = c.in_ok-near.near.items in
    let marks = c.mark_all.new.marks in
    let row = c.slice.ensures ∙ ap (λ (r : CutRow). r.uses) c.row.ensures.row in
    marked_at c.args.cut.now c.args.origin.now c.args.order.now c.args.at marks near c.in_ok-near.ensures.near
    (subst (λ us. All (λ (u : Use). IsFoundMarked marks (slice_index_or near u.block None)) us) row
    (subst (λ ns. All (λ (u : Use). IsFoundMarked marks (slice_index_or ns u.block None)) c.slice.result.now) c.deref.ensures.value
    c.mark_all.ensures.marked))
