use Rattle.std.proofs.Common.{◌∙◌, sym, subst, rules}
use Rattle.std.specs.Str.{IsUtf8}
use Rattle.rail_outside.proofs.memory_words.texts_of.Goals as goal

pub unwrap-text-requires : goal.unwrap-text-requires
unwrap-text-requires c =
    let text : IsUtf8 c.slice.result.now = subst IsUtf8 (sym (c.slice.ensures ∙ c.word-item.is))
    (c.requires c.loop-word.word-index c.word-item.result c.loop-word-test.true) in
    search (rules, text)
