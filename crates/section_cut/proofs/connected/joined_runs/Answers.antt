use Rattle.std.proofs.Common.{◌≡◌, ◌+◌, ◌++◌, ◌<◌, Bool, true, List, length, take, drop, sym, ap, ◌∙◌, subst, arith}
use Rattle.std.proofs.Math.Seq.{take-append_seam}
use Rattle.std.proofs.lemmas.List.{length-set}
use Rattle.std.proofs.lemmas.Option.{get_or_from_slice_get}
use Rattle.rail_model.specs.declared.items.Run.{Run}
use Rattle.rail_model.specs.Tables.{number_of}
use Rattle.section_cut.specs.Connected.{with_told}
use Rattle.section_cut.proofs.JoinedRuns.{IsJoinedTo, joined_more}
use Rattle.section_cut.proofs.Known.{connection_read}
use Rattle.section_cut.proofs.connected.joined_runs.Goals as goal

pub loop-number-preserved : goal.loop-number-preserved
loop-number-preserved c =
    let tables = c.args.tables.now in
    let n = c.loop-number.number in
    let one = c.connection.result.now in
    let before = c.loop-number.told.items in
    let slice = c.deref_mut.result.now in
    let new = c.tell_joined.new.told in
    let below : n < length tables.connections = omega (arith, c.loop-number-test.true, c.connections-number-end.ensures.count) in
    let known = connection_read tables c.learn_sound.ensures n one below c.connection.ensures in
    let told : new ≡ with_told tables one.second (with_told tables one.first before) =
    c.tell_joined.ensures ∙ ap (λ (ts : List Bool). with_told tables one.second (with_told tables one.first ts)) c.deref_mut.ensures.value in
    let count : length new ≡ c.loop-number.told.len =
    ap length c.tell_joined.ensures ∙ length-set (with_told tables one.first slice) (number_of (λ (r : Run). r.name) tables.runs one.second) true
    ∙ length-set slice (number_of (λ (r : Run). r.name) tables.runs one.first) true ∙ c.deref_mut.ensures.len in
    let whole : take c.loop-number.told.len (new ++ drop (length new) before) ≡ new =
    subst (λ k. take k (new ++ drop (length new) before) ≡ new) count (take-append_seam new (drop (length new) before)) in
    subst (IsJoinedTo tables (n + 1)) (sym (whole ∙ told))
    (joined_more tables c.learn_sound.ensures before n one below (get_or_from_slice_get tables.connections n one one c.connection.ensures)
    (record { first = known.first; second = known.second }) c.loop-number.invariant)
