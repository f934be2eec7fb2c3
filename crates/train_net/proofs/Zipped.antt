-- What holds of the elements of one list, and of those at the same places of another.
use Rattle.std.proofs.Common.{zero, suc, List, [], ◌∷◌, refl, sym, subst, arith}
use Rattle.std.specs.Prelude.{All, Any}
use Rattle.std.specs.List.{AllZip}

module _ {X : Type 0} (R : X → X → Type 0) (P Q : X → Type 0) (step : (x y : X) → R x y → P x → Q y) where
  pub all_zip : (xs ys : List X) → AllZip R xs ys → All P xs → All Q ys
  all_zip [] [] z all k d l = absurd (omega (arith, l))
  all_zip [] (y ∷ ys) z all k d l = absurd z
  all_zip (x ∷ xs) [] z all k d l = absurd z
  all_zip (x ∷ xs) (y ∷ ys) z all zero d l = step x y z.0 (all 0 x (omega arith))
  all_zip (x ∷ xs) (y ∷ ys) z all (suc k) d l =
      all_zip xs ys z.1 (λ i e m. all (suc i) e (omega (arith, m))) k d (omega (arith, l))

  pub any_zip : (xs ys : List X) → AllZip R xs ys → Any P xs → Any Q ys
  any_zip [] [] z (k, x, l, is, p) = absurd (omega (arith, l))
  any_zip [] (y ∷ ys) z any = absurd z
  any_zip (x ∷ xs) [] z any = absurd z
  any_zip (x ∷ xs) (y ∷ ys) z (zero, e, l, is, p) = (0, y, omega arith, refl, step x y z.0 (subst P (sym is) p))
  any_zip (x ∷ xs) (y ∷ ys) z (suc k, e, l, is, p) =
      let rest = any_zip xs ys z.1 (k, e, omega (arith, l), is, p) in
      (suc rest.0, rest.1, omega (arith, rest.2), rest.3, rest.4)
