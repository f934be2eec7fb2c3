use Rattle.std.proofs.Common.{◌≡◌, ◌+◌, ◌-◌, ◌≤◌, ◌++◌, List, length, map, take, get_or, sym, ap, ◌∙◌, arith, length-append}
use Rattle.std.specs.List.{flat_map}
use Rattle.std.proofs.lemmas.List.{length-map, length-take, map-append}
use Rattle.std.proofs.lemmas.List.Sums.{sum_by_more}
use Rattle.conflict_finder.specs.declared.ranked.Ranked.{Ranked}
use Rattle.conflict_finder.specs.declared.found.Conflict.{Conflict}
use Rattle.conflict_finder.specs.declared.found.Met.{Met}
use Rattle.conflict_finder.specs.declared.found.MetInPart.{MetInPart}
use Rattle.conflict_finder.specs.declared.found.TheConstants.{LISTED}
use Rattle.conflict_finder.specs.ByNumber.{named, HasRuns, count_of}
use Rattle.conflict_finder.proofs.Laid.{next_block}
use Rattle.conflict_finder.proofs.Room.{take_both}
use Rattle.conflict_finder.proofs.InParts.{part_among_first}
use Rattle.conflict_finder.proofs.parts.joined.Goals as goal

abbrev met_in : List MetInPart → List Met
met_in found = flat_map (λ part. part.list.items) found

-- the room that is left
left : (runs : List Ranked) (list : List Conflict) (so_far : List Met) → list ≡ map (named runs) (take LISTED so_far) → (length list ≤ LISTED) × (LISTED - length list ≡ LISTED - length so_far)
left runs list so_far is =
    let count = ap length is ∙ length-map (take LISTED so_far) (named runs) ∙ length-take LISTED so_far in
    (omega (arith, count), omega (arith, count))

pub list_part-requires-clause-room : goal.list_part-requires-clause-room
list_part-requires-clause-room c = (left c.args.runs.now c.loop-part.list.items (met_in (take c.loop-part.part-index c.args.found.now)) c.loop-part.invariant.list).0

pub list_part-requires-clause-there : goal.list_part-requires-clause-there
list_part-requires-clause-there c =
    let found = c.args.found.now in
    let i = c.loop-part.part-index in
    let room = (left c.args.runs.now c.loop-part.list.items (met_in (take i found)) c.loop-part.invariant.list).1 in
    let is = c.deref.ensures.value ∙ ap (λ (f : MetInPart). f.list.items) c.part-item.is in
    rw (room, is) (part_among_first (HasRuns (length c.args.runs.now)) (λ (f : MetInPart). f.list.items) LISTED found i c.part-item.result c.loop-part-test.true c.requires.there)

pub loop-part-preserved : goal.loop-part-preserved
loop-part-preserved c =
    let found = c.args.found.now in
    let i = c.loop-part.part-index in
    let d = c.part-item.result in
    let name = named c.args.runs.now in
    let so_far = met_in (take i found) in
    let part = c.deref.result.now in
    let is : part ≡ (get_or found i d).list.items = c.deref.ensures.value ∙ ap (λ (f : MetInPart). f.list.items) c.part-item.is in
    let more : met_in (take (i + 1) found) ≡ so_far ++ part =
    next_block (λ (f : MetInPart). f.list.items) found i d c.loop-part-test.true ∙ ap (λ v. so_far ++ v) (sym is) in
    let room = (left c.args.runs.now c.loop-part.list.items so_far c.loop-part.invariant.list).1 in
    let next = take (LISTED - length so_far) part in
    let list = c.in_ok-list_part.ensures ∙ ap (λ n. c.loop-part.list.items ++ map name (take n part)) room in
    record {
      list = list ∙ ap (λ v. v ++ map name next) c.loop-part.invariant.list ∙ sym (map-append name (take LISTED so_far) next)
          ∙ ap (map name) (sym (take_both LISTED so_far part) ∙ ap (take LISTED) (sym more));
      count = omega (arith, c.loop-part.invariant.count, c.len.ensures, sum_by_more count_of found i d c.loop-part-test.true, ap count_of c.part-item.is);
      most = omega (arith, c.loop-part.invariant.most, c.len.ensures, ap length list, ap length c.deref.ensures.value, length-append c.loop-part.list.items (map name next), length-map next name, length-take (LISTED - length so_far) part);
    }
