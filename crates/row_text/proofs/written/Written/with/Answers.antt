use Rattle.std.proofs.Common.{◌≡◌, ◌++◌, ◌∷◌, [], refl, ◌∙◌, append_assoc, rules, arith}
use Rattle.csv.specs.Writing.{default_writer, field_text, row_body}
use Rattle.std.proofs.lemmas.List.{append-nil, length-append}
use Rattle.row_text.proofs.SheetRows.{row_body-append, has_fields-some}
use Rattle.row_text.proofs.written.Written.with.Goals as goal

pub invariant_of-result : goal.invariant_of-result
invariant_of-result c =
    let own = c.self.inside in
    let field = c.args.field.now in
    let fields : c.push.new.self ≡ own.fields ++ field ∷ [] = search rules in
    let comma : c.push-2.new.self.items ≡ own.text.items ++ 44 ∷ [] = c.in_ok-push-2.ensures.items in
    let last : c.deref.result.now ≡ field_text default_writer field = c.deref.ensures.value ∙ c.in_ok-field_text.ensures in
    let text : c.extend_from_slice.new.self.items ≡ row_body default_writer own.fields ++ (44 ∷ (field_text default_writer field ++ [])) =
    c.in_ok-extend_from_slice.ensures.items ∙ rw (comma, last, c.self.invariant.0, append-nil) (append_assoc (row_body default_writer own.fields) (44 ∷ []) (field_text default_writer field)) in
    rw fields (
      text ∙ rw (row_body-append own.fields (field ∷ []), has_fields-some own.fields c.self.invariant.1) refl,
      omega (arith, length-append own.fields (field ∷ [])),
    )
