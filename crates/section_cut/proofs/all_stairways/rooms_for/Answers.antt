use Rattle.std.proofs.Common.{◌≡◌, ◌<◌, ◌++◌, ◌∷◌, [], length, map, ap, subst, sym, ◌∙◌, arith}
use Rattle.std.specs.Prelude.{All}
use Rattle.std.specs.List.{range_with_len}
use Rattle.std.proofs.lemmas.List.{map-append}
use Rattle.std.proofs.lemmas.List.Elements.{All-append, All-cons, All-nil}
use Rattle.rail_model.proofs.Lists.{range_more}
use Rattle.section_cut.specs.declared.all_stairways.StairRoom.{StairRoom}
use Rattle.section_cut.specs.Rooms.{IsRoomFor}
use Rattle.section_cut.proofs.all_stairways.rooms_for.Goals as goal

pub loop-run-preserved : goal.loop-run-preserved
loop-run-preserved c =
    let runs = length c.args.tables.now.runs in
    let n = c.loop-run.run in
    let rooms = c.loop-run.rooms.items in
    let room : StairRoom = record { run = n; uses = c.in_ok-uses.uses } in
    let below : n < runs = omega (arith, c.loop-run-test.true, c.runs.ensures.count) in
    let one : IsRoomFor runs room = record { there = below; empty = c.in_ok-uses.ensures.items } in
    record {
      numbers = ap (map (λ (r : StairRoom). r.run)) c.in_ok-push.ensures.items ∙ map-append (λ (r : StairRoom). r.run) rooms (room ∷ [])
          ∙ ap (λ s. s ++ n ∷ []) c.loop-run.invariant.numbers ∙ sym (range_more 0 n n (omega arith));
      each = subst (All (IsRoomFor runs)) (sym c.in_ok-push.ensures.items)
          (All-append (IsRoomFor runs) rooms (room ∷ []) c.loop-run.invariant.each
          (All-cons (IsRoomFor runs) room [] one (All-nil (IsRoomFor runs))));
    }

pub returns : goal.returns
returns c =
    let runs = length c.args.tables.now.runs in
    let all : c.loop-run.run ≡ runs = omega (arith, c.loop-run-test.false, c.loop-run.auto.run-end) in
    record {
      numbers = c.loop-run.invariant.numbers ∙ ap (range_with_len 0) all;
      each = c.loop-run.invariant.each;
    }
