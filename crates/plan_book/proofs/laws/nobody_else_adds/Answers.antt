use Rattle.plan_book.proofs.Issuing as book
use Rattle.plan_book.proofs.laws.nobody_else_adds.Goals as goal

pub returns : goal.returns
returns c = book.nobody_else_adds
