-- Trains by position, and one train more behind the others.
use Rattle.std.proofs.Common.{◌≡◌, ℕ, ◌<◌, List, [], ◌∷◌, ◌++◌, length, get_or, refl, sym, ap, ◌∙◌, arith}
use Rattle.std.specs.Simd.Lanes.{zip2}
use Rattle.std.proofs.lemmas.Simd.{length-zip2, get_or-zip2}
use Rattle.plan_model.specs.declared.answer.Placed.{Placed}
use Rattle.plan_model.specs.declared.train_numbers.TrainNumbers.{TrainNumbers}
use Rattle.plan_model.specs.TrainNumbers.{no_numbers}
use Rattle.plan_model.specs.PlacedList.{no_train, with_name}

-- two lists side by side, and one item more in each
pub beside_more : {X Y Z : Type 0} (f : X → Y → Z) (xs : List X) (ys : List Y) (x : X) (y : Y) → length xs ≡ length ys
    → zip2 f (xs ++ x ∷ []) (ys ++ y ∷ []) ≡ zip2 f xs ys ++ f x y ∷ []
beside_more f [] [] x y e = refl
beside_more f [] (b ∷ ys) x y e = absurd (omega (arith, e))
beside_more f (a ∷ xs) [] x y e = absurd (omega (arith, e))
beside_more f (a ∷ xs) (b ∷ ys) x y e = ap (λ zs. f a b ∷ zs) (beside_more f xs ys x y (omega (arith, e)))

module _ (names : List (List ℕ)) (numbers : List TrainNumbers) (trains : List Placed) (same : zip2 with_name names numbers ≡ trains) (e : length names ≡ length numbers) where
  pub counted : length trains ≡ length numbers
  counted = sym (ap length same) ∙ length-zip2 with_name names numbers e ∙ e

  pub train_is : (i : ℕ) (n : TrainNumbers) → i < length trains → n ≡ get_or numbers i no_numbers → with_name (get_or names i []) n ≡ get_or trains i no_train
  train_is i n l is =
      ap (with_name (get_or names i [])) is
      ∙ sym (get_or-zip2 with_name names numbers i [] no_numbers no_train (omega (arith, l, counted, e)) (omega (arith, l, counted)))
      ∙ ap (λ ts. get_or ts i no_train) same

  pub name_is : (i : ℕ) → i < length trains → get_or names i [] ≡ (get_or trains i no_train).train
  name_is i l =
      ap (λ (p : Placed). p.train) (train_is i (get_or numbers i no_numbers) l refl)
