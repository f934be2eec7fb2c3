use Rattle.std.proofs.Common.{rules, refl, sym, ◌∙◌}
use Rattle.std.specs.Prelude.{None}
use Rattle.std.proofs.lemmas.Bool.{and_right}
use Rattle.plan_model.specs.Members.{member, uses_place}
use Rattle.plan_model.proofs.Uses.{is_used, its_use}
use Rattle.plan_model.proofs.fit_cut.SoundCut.precedes.Goals as goal

pub returns-in-Some-Some : goal.returns-in-Some-Some
returns-in-Some-Some c =
    let i = member c.args.self.now c.args.i in
    let j = member c.args.self.now c.args.j in
    let place = c.args.place in
    let one = sym c.use_at.ensures.is ∙ c.in-Some-Some.is-0 in
    let other = sym c.use_at-2.ensures.is ∙ c.in-Some-Some.is-1 in
    rw (is_used i place _ one, is_used j place _ other, its_use i place _ one, its_use j place _ other, ← c.row.ensures.row, ← c.row-in-Some-Some.ensures.row)
    search rules

pub returns-in_default : goal.returns-in_default
returns-in_default c =
    let i = member c.args.self.now c.args.i in
    let j = member c.args.self.now c.args.j in
    let place = c.args.place in
    rw (and_right (uses_place i place) (uses_place j place) (is_used j place None (sym c.use_at-2.ensures.is ∙ c.in_default.is-1))) refl

pub returns-in_default-2 : goal.returns-in_default-2
returns-in_default-2 c =
    let i = member c.args.self.now c.args.i in
    rw (is_used i c.args.place None (sym c.use_at.ensures.is ∙ c.in_default.is-0)) refl
