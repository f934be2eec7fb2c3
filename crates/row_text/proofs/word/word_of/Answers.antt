use Rattle.std.proofs.Common.{◌≡◌, ◌∙◌, sym, codes, ◌++◌, false, option_map, rules}
use Rattle.rail_model.specs.Name.{is_same}
use Rattle.row_text.specs.declared.word.Word.TheVariants as word
use Rattle.row_text.proofs.Words.{kind_of, after_prefix, word_of-change, word_of-drop, word_of-kind, word_of-ask, word_of-planner}
use Rattle.row_text.proofs.word.word_of.Goals as goal

pub returns-in-Some : goal.returns-in-Some
returns-in-Some c =
    let found : c.map.result ≡ option_map word.Change (kind_of c.in-Some.kind.now) = search rules in
    let starts = rw c.as_slice.ensures at c.in-Some.ensures.cases in
    let whole : c.args.field.now ≡ codes "change-" ++ c.in-Some.kind.now = after_prefix c.args.field.now (codes "change-") c.in-Some.kind.now starts.0 starts.1 in
    rw whole (found ∙ sym (word_of-change c.in-Some.kind.now))

pub returns-in-Some-strip_prefix : goal.returns-in-Some-strip_prefix
returns-in-Some-strip_prefix c =
    let kind = c.in-Some-strip_prefix.kind.now in
    let found : c.map-in-Some-strip_prefix.result ≡ option_map word.Drop (kind_of kind) = search rules in
    let starts = rw c.as_slice-2.ensures at c.in-Some-strip_prefix.ensures.cases in
    let whole : c.args.field.now ≡ codes "drop-" ++ kind = after_prefix c.args.field.now (codes "drop-") kind starts.0 starts.1 in
    rw whole (found ∙ sym (word_of-drop kind))

pub returns-then-is_word : goal.returns-then-is_word
returns-then-is_word c =
    let is : c.args.field.now ≡ codes "ask" = search rules in rw is (sym word_of-ask)

pub returns-then-is_word-2 : goal.returns-then-is_word-2
returns-then-is_word-2 c =
    let is : c.args.field.now ≡ codes "planner" = search rules in rw is (sym word_of-planner)

pub returns : goal.returns
returns c =
    let found : c.map-2.result ≡ option_map word.Put (kind_of c.args.field.now) = search rules in
    let no_change = rw c.as_slice.ensures at c.in_default.ensures.cases in
    let no_drop = rw c.as_slice-2.ensures at c.in_default-strip_prefix.ensures.cases in
    let no_ask : is_same c.args.field.now (codes "ask") ≡ false = search rules in
    let no_planner : is_same c.args.field.now (codes "planner") ≡ false = search rules in
    found ∙ sym (word_of-kind c.args.field.now no_change no_drop no_ask no_planner)
