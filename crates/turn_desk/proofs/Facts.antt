-- A fact of all entries of a number is kept as the journal goes on.
use Rattle.std.proofs.Common.{◌≡◌, ℕ, List, ◌∙◌, subst, sym}
use Rattle.std.specs.Prelude.{All, Contains}
use Rattle.std.proofs.lemmas.List.Elements.{All-append, All-weaker}
use Rattle.turn_desk.specs.Journal.{IsOthers, GoesOn, AddsOwn}
use Rattle.turn_desk.specs.Laws.{AllOwn}

module _ {E : Type 0} (pass_of : E → ℕ) (P : E → Type 0) (number : ℕ) where
  abbrev Own : E → Type 0
  Own e = pass_of e ≡ number → P e

  -- what a pass finds beyond what it has seen carries none of its numbers
  pub own-goes_on : (numbers : List ℕ) (seen log : List E) → GoesOn pass_of numbers seen log
      → Contains numbers number → AllOwn pass_of P number seen → AllOwn pass_of P number log
  own-goes_on numbers seen log g has old = subst (All Own) (sym g.is) (All-append Own seen g.more old
      (All-weaker (IsOthers pass_of numbers) Own
      (λ e out same. absurd (out (subst (λ n. Contains numbers n) (sym same) has))) g.more g.others))

  -- own entries that have the property are added
  pub own-adds : (found log : List E) (a : AddsOwn pass_of number found log) → All P a.own
      → AllOwn pass_of P number found → AllOwn pass_of P number log
  own-adds found log a each old = subst (All Own) (sym a.is)
      (All-append Own found a.own old (All-weaker P Own (λ e p _. p) a.own each))

  -- entries of another number are added
  pub own-others : (other : ℕ) (found log : List E) → AddsOwn pass_of other found log → (other ≡ number → ⊥)
      → AllOwn pass_of P number found → AllOwn pass_of P number log
  own-others other found log a ne old = subst (All Own) (sym a.is) (All-append Own found a.own old
      (All-weaker (λ e. pass_of e ≡ other) Own (λ e is same. absurd (ne (sym is ∙ same))) a.own a.made))
