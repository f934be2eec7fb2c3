use Rattle.std.proofs.Common.{◌≡◌, ℕ, Bool, false, get_or, sym, ap, ◌∙◌, refl, arith}
use Rattle.std.specs.List.{list_any}
use Rattle.std.proofs.lemmas.List.{take_all}
use Rattle.std.proofs.lemmas.List.Folds.{list_any_at, list_any_more}
use Rattle.line_tables.specs.RouteSets.{has}
use Rattle.line_tables.proofs.route_sets.RouteSets.has_some.Goals as goal

pub returns-then-has_key : goal.returns-then-has_key
returns-then-has_key c =
    let blocks = c.args.blocks.now in
    let i = c.loop-block.block-index in
    let p : ℕ → Bool = λ b. has c.args.self.now.of_blocks b c.args.route in
    sym (list_any_at p blocks i 0 c.loop-block-test.true (sym (rw c.words.ensures at c.has_key.ensures) ∙ c.if-has_key.true))

pub loop-block-preserved : goal.loop-block-preserved
loop-block-preserved c =
    let blocks = c.args.blocks.now in
    let i = c.loop-block.block-index in
    let p : ℕ → Bool = λ b. has c.args.self.now.of_blocks b c.args.route in
    let out : p (get_or blocks i 0) ≡ false = sym (rw c.words.ensures at c.has_key.ensures) ∙ c.if-has_key.false in
    list_any_more p blocks i 0 c.loop-block-test.true ∙ rw (c.loop-block.invariant, out) refl

pub returns : goal.returns
returns c =
    let blocks = c.args.blocks.now in
    let p : ℕ → Bool = λ b. has c.args.self.now.of_blocks b c.args.route in
    sym (ap (list_any p) (sym (take_all c.loop-block.block-index blocks (omega (arith, c.loop-block-test.false)))) ∙ c.loop-block.invariant)
