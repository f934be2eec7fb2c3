use Rattle.std.proofs.Common.{◌≡◌, ◌∷◌, [], sym, ◌∙◌, rules, arith}
use Rattle.std.proofs.lemmas.List.{append-nil}
use Rattle.csv.specs.Writing.{fields_text}
use Rattle.row_text.proofs.written.Written.new.Goals as goal

pub invariant_of-result : goal.invariant_of-result
unfolding fields_text
invariant_of-result c =
    let fields : c.push.new.self ≡ c.args.field.now ∷ [] = search rules in
    rw fields (c.in_ok-text.ensures ∙ sym (append-nil _), omega arith)
