use Rattle.std.proofs.Common.{◌≡◌, ◌-◌, ◌+◌, ◌++◌, length, get_or, take, drop, sym, ap, ◌∙◌, subst, arith}
use Rattle.std.specs.Prelude.{slice_set}
use Rattle.std.proofs.Math.Seq.{take-append_seam}
use Rattle.std.proofs.lemmas.List.{length-map, length-set}
use Rattle.rail_model.specs.Tables.{block_number, section_at}
use Rattle.section_cut.proofs.Placing.{IsFilled, placed_within, filled_next, filled_all}
use Rattle.section_cut.proofs.positions.positions.Goals as goal

pub place-requires : goal.place-requires
place-requires c =
    let tables = c.args.tables.now in
    let long = ap length c.deref_mut.ensures.value ∙ c.loop-later.invariant.count in
    let is = c.as_slice-blocks.ensures.value ∙ c.in_ok-found.ensures in
    let within = placed_within tables c.learn_sound.ensures c.args.section c.requires c.as_slice-blocks.result.now is c.loop-later.later c.loop-later-test.true 0 in
    omega (arith, long, within)

pub loop-later-preserved : goal.loop-later-preserved
loop-later-preserved c =
    let tables = c.args.tables.now in
    let section = section_at tables c.args.section in
    let blocks = c.as_slice-blocks.result.now in
    let later = c.loop-later.later in
    let at = length blocks - 1 - later in
    let before = c.loop-later.table.items in
    let new = c.place.new.table in
    let is = c.as_slice-blocks.ensures.value ∙ c.in_ok-found.ensures in
    let placed : new ≡ slice_set before (get_or blocks at 0) at =
    c.place.ensures ∙ ap (λ ns. slice_set ns (get_or blocks at 0) at) c.deref_mut.ensures.value in
    let count : length new ≡ c.loop-later.table.len =
    ap length c.place.ensures ∙ length-set c.deref_mut.result.now (get_or blocks at 0) at ∙ c.deref_mut.ensures.len in
    let whole : take c.loop-later.table.len (new ++ drop (length new) before) ≡ new =
    subst (λ k. take k (new ++ drop (length new) before) ≡ new) count (take-append_seam new (drop (length new) before)) in
    subst (IsFilled tables section (length section.blocks - (later + 1))) (sym (whole ∙ placed))
    (filled_next tables c.learn_sound.ensures c.args.section c.requires blocks is later c.loop-later-test.true 0 before c.loop-later.invariant)

pub returns : goal.returns
returns c =
    let tables = c.args.tables.now in
    let section = section_at tables c.args.section in
    let count = ap length (c.as_slice-blocks.ensures.value ∙ c.in_ok-found.ensures) ∙ length-map section.blocks (block_number tables) in
    filled_all tables section (length section.blocks - c.loop-later.later) c.loop-later.table.items (omega (arith, count, c.loop-later-test.false)) c.loop-later.invariant
