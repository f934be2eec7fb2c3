use Rattle.std.proofs.Common.{◌≡◌, ℕ, ◌<◌, false, sym, arith}
use Rattle.std.proofs.lemmas.Bool.Decides.{nat_tests}
use Rattle.std.proofs.lemmas.List.Folds.{list_any_none}
use Rattle.csv.specs.Writing.{default_writer, needs_byte}
use Rattle.row_text.proofs.written.needs_quotes.Goals as goal

-- a byte above the comma needs no quotes
above-comma : (byte : ℕ) → 44 < byte → needs_byte default_writer byte ≡ false
above-comma byte above = grind (arith, nat_tests)

pub returns-then-are_high : goal.returns-then-are_high
returns-then-are_high c =
    let field = c.args.field.now in
    sym (list_any_none (needs_byte default_writer) field (λ k d l. above-comma _ (c.are_high.ensures c.if-are_high.true k d l)))
