use Rattle.std.proofs.Common.{◌≡◌, ◌<◌, List, [], ◌∷◌, ◌++◌, length, map, rules, sym, ap, ◌∙◌, arith, to_z, of_z, w64}
use Rattle.std.specs.Prelude.{slice_index_or}
use Rattle.std.specs.List.{range_with_len}
use Rattle.std.proofs.lemmas.List.{get_or_default}
use Rattle.std.proofs.lemmas.List.FromFn.{map-range_with_len_more}
use Rattle.plan_model.specs.declared.cut.CutRow.{CutRow}
use Rattle.plan_model.specs.declared.answer.Tie.TheVariants.{Start}
use Rattle.plan_model.specs.declared.answer.Placed.{Placed}
use Rattle.plan_model.specs.Members.{no_member}
use Rattle.plan_model.specs.Schedule.{entry_at}
use Rattle.train_placing.specs.Laid.{placed_with}
use Rattle.train_placing.proofs.plan.placed.Goals as goal

pub loop-i-preserved : goal.loop-i-preserved
loop-i-preserved c =
    let rows = c.args.rows.now in
    let entries = c.args.entries.now in
    let i = c.loop-i.i in
    let F = placed_with rows entries c.args.ties.now in
    let tie = slice_index_or c.args.ties.now i Start in
    let there : i < length rows = c.loop-i-test.true in
    let cast : to_z w64 (of_z w64 (entry_at entries i)) ≡ entry_at entries i = search rules in
    let row = c.index-rows-i.is ∙ get_or_default rows i c.index-rows-i.result no_member there in
    let item : c.placed_at.result ≡ F i =
    c.placed_at.ensures
    ∙ ap (λ e. record { train = c.index-rows-i.result.name; planned = c.index-rows-i.result.entry; entry = e; tie = tie }) cast
    ∙ ap (λ (r : CutRow). record { train = r.name; planned = r.entry; entry = entry_at entries i; tie = tie }) row in
    c.in_ok-push.ensures.ok
    ∙ ap (λ (ls : List Placed). ls ++ c.placed_at.result ∷ []) c.loop-i.invariant
    ∙ ap (λ (p : Placed). map F (range_with_len 0 i) ++ p ∷ []) item
    ∙ sym (map-range_with_len_more F 0 i i (omega arith))
