use Rattle.std.proofs.Common.{◌%◌, refl, arith}
use Rattle.std.proofs.lemmas.Bool.{eq-eqb, ne_eqb}
use Rattle.capacity_cmd.proofs.section_heads.folded.Goals as goal

pub returns-then-place-eq0-clause-is : goal.returns-then-place-eq0-clause-is
returns-then-place-eq0-clause-is c =
    rw (eq-eqb (c.args.place % 2) 0 (omega (arith, c.if-place-eq0.true))) refl

pub returns-else-place-eq0-clause-is : goal.returns-else-place-eq0-clause-is
returns-else-place-eq0-clause-is c =
    rw (ne_eqb (c.args.place % 2) 0 (λ e. omega (arith, e, c.if-place-eq0.false))) refl
