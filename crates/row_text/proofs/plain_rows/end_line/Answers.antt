use Rattle.std.proofs.Common.{◌≡◌, length, refl, ◌∙◌, sym}
use Rattle.row_text.specs.PlainRows.{so_far}
use Rattle.row_text.proofs.PlainRows.{LineEnded-blank, LineEnded-row}
use Rattle.row_text.proofs.plain_rows.end_line.Goals as goal

pub returns-then-is_blank : goal.returns-then-is_blank
returns-then-is_blank c = λ text within order fits. LineEnded-blank text (so_far c.args.cut.now) _ c.args.i within order fits (sym c.is_blank.ensures ∙ c.if-is_blank.true) refl refl refl refl

pub returns : goal.returns
returns c = λ text within order fits.
    let count : c.len-cut.result ≡ length c.push.new.self.items = c.len-cut.ensures ∙ c.push.new.self.ok.0 in
    LineEnded-row text (so_far c.args.cut.now) (so_far c.end_field.new.cut) _ c.args.i within order fits (sym c.is_blank.ensures ∙ c.if-is_blank.false) c.in_ok-end_field.ensures c.in_ok-push.ensures.items (rw count at c.in_ok-push_place.ensures.ok) count refl
