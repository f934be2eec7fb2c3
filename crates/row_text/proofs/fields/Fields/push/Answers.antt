use Rattle.std.proofs.Common.{◌≡◌, ◌∷◌, ◌++◌, [], refl, ◌∙◌}
use Rattle.std.proofs.lemmas.Result.{err_from_is_err_and}
use Rattle.row_text.specs.Cuts.{EndsAt, fields_cut_at, with_first}
use Rattle.row_text.proofs.Cuts.{put-field, with_first-ends, with_first-same}
use Rattle.row_text.proofs.fields.Fields.push.Goals as goal

pub invariant_of-self-in_err-self-inside : goal.invariant_of-self-in_err-self-inside
invariant_of-self-in_err-self-inside c =
    let own = c.self.inside in
    rw (c.in_err-self-inside.ensures.bytes, c.in_err-self-inside.ensures.cuts, c.in_ok-put_first.ensures.ok) (with_first-ends own.bytes.items own.cuts.items own.used c.self.invariant).1

pub returns-in_err-self-inside-clause-err : goal.returns-in_err-self-inside-clause-err
returns-in_err-self-inside-clause-err c =
    let own = c.self.inside in
    let p = err_from_is_err_and c.from_residual-in_err-self-inside.result c.from_residual-in_err-self-inside.ensures.1 in
    rw p.1 (rw (c.in_err-self-inside.ensures.bytes, c.in_err-self-inside.ensures.cuts, c.in_ok-put_first.ensures.ok) (with_first-same own.bytes.items own.cuts.items ∙ c.self.view_is))

-- the bytes with the field, and the places with the one past it
put : (c : goal.After-self-2-1) → (fields_cut_at c.put_field.new.bytes.items c.put_field.new.cuts.items ≡ fields_cut_at c.self.inside.bytes.items c.self.inside.cuts.items ++ c.args.field.now ∷ [])
    × EndsAt c.put_field.new.bytes.items c.put_field.new.cuts.items c.in_ok-self-inside.field-0
put c =
    let own = c.self.inside in
    let first = with_first-ends own.bytes.items own.cuts.items own.used c.self.invariant in
    let step = put-field own.bytes.items c.put_field.new.bytes.items (with_first own.cuts.items) c.put_field.new.cuts.items own.used c.in_ok-self-inside.field-0 c.args.field.now first.0 first.1
    (rw c.in_ok-put_first.ensures.ok at c.in_ok-self-inside.ensures.ok) in
    (step.0 ∙ rw (with_first-same own.bytes.items own.cuts.items) refl, step.1)

pub invariant_of-self-2 : goal.invariant_of-self-2
invariant_of-self-2 c = (put c).1

pub returns-clause-ok : goal.returns-clause-ok
returns-clause-ok c = rw (← c.self.view_is) (put c).0
