use Rattle.std.proofs.Common.{inr, sym, ◌∙◌, append_assoc}
use Rattle.std.specs.Prelude.{codes}
use Rattle.std.specs.String.{string_bytes}
use Rattle.sentences.proofs.words_sentence.wants.Goals as goal

pub returns : goal.returns
returns c =
    let word = string_bytes c.args.word.now in
    let wanted = c.args.wanted.now in
    rw c.requires (inr (wanted, c.in_ok-format.ensures.ok ∙ sym (append_assoc word (codes " wants ") wanted)))
