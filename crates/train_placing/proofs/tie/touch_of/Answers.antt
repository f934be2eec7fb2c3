use Rattle.std.proofs.Common.{◌≡◌, false, rules, refl, sym, ap, subst, ◌∙◌, of_z, w64}
use Rattle.std.specs.Prelude.{◌+ℤ◌, ◌-ℤ◌, None}
use Rattle.std.specs.Ordering.{int_eq}
use Rattle.std.proofs.lemmas.Bool.{false_from_ne_true}
use Rattle.std.proofs.lemmas.Bool.Decides.{Decides-int_eq}
use Rattle.train_placing.specs.Touch.{touch_of}
use Rattle.train_placing.proofs.tie.touch_of.Goals as goal

pub returns-then-last-start-clause-same : goal.returns-then-last-start-clause-same
returns-then-last-start-clause-same c = search rules

pub returns-else-last-start-clause-same : goal.returns-else-last-start-clause-same
returns-else-last-start-clause-same c =
    let u = c.args.one.now in
    let until = c.in-Some.last.until in
    let start = u.start -ℤ c.args.planned +ℤ c.args.entry in
    let is : c.shift-start.result ≡ start = search rules in
    let apart : int_eq until start ≡ false =
    false_from_ne_true (int_eq until start) (λ t.
    c.if-last-start.false (ap (of_z w64) ((Decides-int_eq until start).0 t ∙ sym is))) in
    subst (λ o. None ≡ touch_of c.args.planned c.args.entry o u) (sym c.in-Some.is) (rw apart refl)
