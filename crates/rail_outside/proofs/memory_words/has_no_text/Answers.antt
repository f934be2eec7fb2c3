use Rattle.std.proofs.Common.{◌∙◌, All, subst, rules}
use Rattle.std.specs.Str.{IsUtf8}
use Rattle.std.proofs.lemmas.List.{take_all}
use Rattle.std.proofs.lemmas.List.Elements.{All-more}
use Rattle.rail_outside.proofs.Texts.{all_text}
use Rattle.rail_outside.proofs.memory_words.has_no_text.Goals as goal

pub loop-word-preserved : goal.loop-word-preserved
loop-word-preserved c =
    let text : IsUtf8 c.slice.result.now = search rules in
    All-more IsUtf8 c.args.words.now c.loop-word.word-index c.word-item.result c.loop-word-test.true c.loop-word.invariant
    (subst IsUtf8 (c.slice.ensures ∙ c.word-item.is) text)

texts : (c : goal.After-loop-word) → All IsUtf8 c.args.words.now
texts c = subst (All IsUtf8) (take_all _ _ c.loop-word-test.false) c.loop-word.invariant

pub returns-clause-texts : goal.returns-clause-texts
returns-clause-texts c _ = texts c

pub returns-clause-no_text : goal.returns-clause-no_text
returns-clause-no_text c = (λ is. absurd (cc), λ no. absurd (all_text _ (texts c) no))
