use Rattle.std.proofs.Common.{◌++◌, ◌∷◌, [], Ok, map, sym, ap, ◌∙◌, append_assoc, append-nil}
use Rattle.std.proofs.lemmas.List.{map-append}
use Rattle.std.proofs.lemmas.List.Concat.{flat_map-append}
use Rattle.capacity_report.proofs.PieceTexts.{text_of, all_of}
use Rattle.capacity_report.proofs.journal_pieces.joined.Goals as goal

pub loop-texts-preserved : goal.loop-texts-preserved
loop-texts-preserved c =
    let so_far = c.loop-texts.invariant in
    let made = so_far.0 in
    let texts = c.in_ok-texts.field-0 in
    let rest = c.next.new.self.rest.items in (
      made ++ texts ∷ [],
      so_far.1 ∙ ap (λ xs. map Ok made ++ xs) (c.in-Some.ensures.steps.0 ∙ ap (λ r. r ∷ rest) c.in_ok-texts.was)
          ∙ sym (append_assoc (map Ok made) (Ok texts ∷ []) rest) ∙ ap (λ xs. xs ++ rest) (sym (map-append Ok made (texts ∷ []))),
      c.in_ok-push_all.ensures ∙ ap (λ text. text ++ text_of texts) so_far.2
          ∙ ap (λ text. all_of made ++ text) (sym (append-nil (text_of texts)))
          ∙ sym (flat_map-append text_of made (texts ∷ [])),
    )
