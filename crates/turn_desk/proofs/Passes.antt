-- What holds of a pass still does after it has given its turn back, and after others have got its numbers.
use Rattle.std.proofs.Common.{◌≡◌, ℕ, ◌≤◌, List, [], ◌++◌, sym, subst, refl}
use Rattle.turn_desk.specs.Journal.{AddsOwn}
use Rattle.turn_desk.specs.Seats.{IsPass}
use Rattle.turn_desk.specs.Steps.{Mine}
use Rattle.turn_desk.specs.Views.{given, with_drawn}
use Rattle.turn_desk.proofs.Fitting.{grown, below_more}

module _ {V E : Type 0} (pass_of : E → ℕ) (issued_by : List E → ℕ) (is_legal : List E → Type 0)
    (grows : (xs ys : List E) → issued_by xs ≤ issued_by (xs ++ ys)) where
  pub pass_given : (m m' : Mine V E) (number moment : ℕ) (log : List E) → m' ≡ (given issued_by moment log m.0, [])
      → AddsOwn pass_of number m.0.seen log → is_legal log
      → IsPass issued_by is_legal m number → IsPass issued_by is_legal m' number
  pass_given m m' number moment log is a legal p = subst (λ z. IsPass issued_by is_legal z number) (sym is) record {
    number_is = p.number_is;
    own = p.own;
    issued = below_more pass_of issued_by grows m.0.numbers m.0.seen log
        (grown pass_of issued_by grows m.0.seen log a.own a.is) p.issued;
    legal = legal;
    hand = refl;
  }

  pub pass_drawn : (m m' : Mine V E) (number drawn left : ℕ) → m' ≡ (with_drawn drawn left m.0, m.1)
      → IsPass issued_by is_legal m number → IsPass issued_by is_legal m' number
  pass_drawn m m' number drawn left is p = subst (λ z. IsPass issued_by is_legal z number) (sym is)
      record { number_is = p.number_is; own = p.own; issued = p.issued; legal = p.legal; hand = p.hand }
