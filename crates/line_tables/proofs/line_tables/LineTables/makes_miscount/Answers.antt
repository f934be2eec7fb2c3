use Rattle.std.proofs.Common.{◌≡◌, ℕ, Option, Some, ◌∙◌, sym, refl, eq-eqb, subst}
use Rattle.std.specs.Prelude.{IfSome}
use Rattle.std.proofs.lemmas.Bool.{false_from_ne_true, eqb-true}
use Rattle.line_tables.proofs.Legs.{makes_miscount_is}
use Rattle.line_tables.proofs.line_tables.LineTables.makes_miscount.Goals as goal

counted : (found : Option ℕ) (n m : ℕ) → found ≡ Some n → IfSome found (λ k. k ≡ m) → n ≡ m
counted found n m is h = subst (λ o. IfSome o (λ k. k ≡ m)) is h

pub returns-then-unwrap-len : goal.returns-then-unwrap-len
returns-then-unwrap-len c =
    let t = c.args.self.now in
    let count = counted _ _ _ c.unwrap.ensures c.signal_count.ensures.count in
    let differ = false_from_ne_true _ (λ e. c.if-unwrap-len.true (count ∙ eqb-true _ _ e ∙ sym c.len.ensures.count)) in
    c.is_route_used.ensures
    ∙ sym (makes_miscount_is t c.args.route.now c.signal_count.ensures.sound ∙ rw differ refl)

pub returns-else-unwrap-len : goal.returns-else-unwrap-len
returns-else-unwrap-len c =
    let t = c.args.self.now in
    let count = counted _ _ _ c.unwrap.ensures c.signal_count.ensures.count in
    let same = eq-eqb _ _ c.if-unwrap-len.false in
    let alike = eq-eqb _ _ (sym count ∙ c.if-unwrap-len.false ∙ c.len.ensures.count) in
    rw same (sym (makes_miscount_is t c.args.route.now c.signal_count.ensures.sound ∙ rw alike refl))
