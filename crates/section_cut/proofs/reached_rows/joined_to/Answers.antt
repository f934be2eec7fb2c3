use Rattle.std.proofs.Common.{◌-◌, ◌++◌, ◌∷◌, [], List, length, get_or, take, drop, Some, sym, ap, ◌∙◌, subst, arith}
use Rattle.std.specs.Prelude.{IfSome, option_map}
use Rattle.std.specs.Option.{option_copied}
use Rattle.std.proofs.lemmas.List.{append_assoc, take_more, take_all}
use Rattle.rail_model.specs.declared.stair.Use.{Use}
use Rattle.plan_model.specs.declared.cut.CutRow.{CutRow}
use Rattle.plan_model.specs.Cut.{AreBlocksFirst}
use Rattle.plan_model.specs.Members.{no_use}
use Rattle.section_cut.specs.Connected.{block_part, with_rest}
use Rattle.section_cut.proofs.BlockPart.{rest_taken}
use Rattle.section_cut.proofs.reached_rows.joined_to.Goals as goal

pub loop-one-preserved : goal.loop-one-preserved
loop-one-preserved c =
    let from = length c.block_part-from.result.now in
    let all = c.slice-uses.result.now in
    let rest = take (length all - from) (drop from all) in
    let i = c.loop-one.one-index in
    let one = get_or rest i no_use in
    let row = c.in-Some.row in
    let with_uses : CutRow → List Use → CutRow = λ r us. record r { uses = us } in
    ap (with_uses c.loop-one.row) c.in_ok-push.ensures.ok
    ∙ ap (λ (r : CutRow). with_uses r (r.uses ++ one ∷ [])) c.loop-one.invariant
    ∙ ap (with_uses row) (append_assoc row.uses (take i rest) (one ∷ []) ∙ ap (λ us. row.uses ++ us) (sym (take_more rest i no_use c.loop-one-test.true)))

pub returns : goal.returns
returns c =
    let section = c.args.table.section.now in
    let from = length c.block_part-from.result.now in
    let all = c.slice-uses.result.now in
    let own = c.in-Some-own.own.now in
    let rest = take (length all - from) (drop from all) in
    let row = c.in-Some.row in
    let first = subst (λ o. IfSome (option_copied o) (λ (r : CutRow). AreBlocksFirst (length section.blocks) r.uses)) c.in-Some-own.is c.requires in
    let with_uses : List Use → CutRow = λ us. record row { uses = row.uses ++ us } in
    let parted = c.block_part-from.ensures ∙ ap (block_part section) c.slice-uses.ensures in
    ap Some
    (c.loop-one.invariant
    ∙ ap with_uses
    (take_all c.loop-one.one-index rest (omega (arith, c.loop-one-test.false))
    ∙ ap (λ (us : List Use). take (length all - length us) (drop (length us) all)) parted
    ∙ ap (λ (us : List Use). take (length us - length (block_part section own.uses)) (drop (length (block_part section own.uses)) us)) c.slice-uses.ensures
    ∙ rest_taken (length section.blocks) own.uses first))
    ∙ sym (ap (λ o. option_map (with_rest section o) c.args.row) (ap option_copied c.in-Some-own.is) ∙ ap (option_map (with_rest section (Some own))) c.in-Some.is)
