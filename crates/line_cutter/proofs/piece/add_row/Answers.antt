use Rattle.std.proofs.Common.{◌≡◌, ◌++◌, ◌∷◌, [], List, map, sym, ap, ◌∙◌}
use Rattle.std.specs.Prelude.{filter}
use Rattle.std.proofs.lemmas.Bool.{both_ways}
use Rattle.rail_model.specs.declared.stair.Use.{Use}
use Rattle.plan_model.specs.declared.cut.CutRow.{CutRow}
use Rattle.plan_model.specs.Cut.{least}
use Rattle.line_cutter.specs.Cutting.{is_within, moved_use, piece_row}
use Rattle.line_cutter.proofs.Ways.{none_added, one_added}
use Rattle.line_cutter.proofs.piece.add_row.Goals as goal

pub returns-then-is_empty : goal.returns-then-is_empty
returns-then-is_empty c =
    let a = c.args.a in
    let b = c.args.b in
    let row = c.args.row.now in
    let used : c.in_ok-uses.uses ≡ map (moved_use a) (filter (is_within a b) row.uses) =
    c.in_ok-uses.ensures ∙ ap (λ (us : List Use). map (moved_use a) (filter (is_within a b) us)) c.slice.ensures in
    none_added a b c.args.some.now row (sym used ∙ c.is_empty.ensures.0 c.if-is_empty.true)

pub returns : goal.returns
returns c =
    let a = c.args.a in
    let b = c.args.b in
    let row = c.args.row.now in
    let rows = c.args.some.now in
    let used : c.in_ok-uses.uses ≡ map (moved_use a) (filter (is_within a b) row.uses) =
    c.in_ok-uses.ensures ∙ ap (λ (us : List Use). map (moved_use a) (filter (is_within a b) us)) c.slice.ensures in
    let is : c.piece_row.result ≡ piece_row a b row =
    c.piece_row.ensures
    ∙ ap (λ (us : List Use). let r : CutRow = record row { entry = least (map (λ u. u.start) us); uses = us } in r) used in
    c.in_ok-push.ensures.ok
    ∙ ap (λ (r : CutRow). rows ++ r ∷ []) is
    ∙ one_added a b rows row (λ none. both_ways c.is_empty.result c.if-is_empty.false (c.is_empty.ensures.1 (used ∙ none)))
