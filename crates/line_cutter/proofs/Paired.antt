-- Two lists whose elements are related place by place.
use Rattle.std.proofs.Common.{◌≡◌, ℕ, zero, suc, ◌+◌, ◌<◌, List, [], ◌∷◌, ◌++◌, length, take, get_or, sym, ap, subst, ◌∙◌, arith}
use Rattle.std.specs.List.{AllZip}
use Rattle.std.proofs.lemmas.List.{take_more}
use Rattle.std.proofs.lemmas.Slice.Zip.{all_zipped_more}

module _ {A B : Type 0} (R : A → B → Type 0) where
  pub paired_at : (xs : List A) (ys : List B) (k : ℕ) (d : A) (e : B) → AllZip R xs ys → k < length xs
      → R (get_or xs k d) (get_or ys k e)
  paired_at [] [] k d e h l = absurd (omega arith)
  paired_at [] (y ∷ ys) k d e h l = absurd h
  paired_at (x ∷ xs) [] k d e h l = absurd h
  paired_at (x ∷ xs) (y ∷ ys) zero d e h l = h.0
  paired_at (x ∷ xs) (y ∷ ys) (suc k) d e h l = paired_at xs ys k d e h.1 (omega (arith, l))

  pub paired_more : (xs : List A) (i : ℕ) (x : A) (ys : List B) (y : B) → i < length xs → x ≡ get_or xs i x
      → AllZip R (take i xs) ys → R x y → AllZip R (take (i + 1) xs) (ys ++ y ∷ [])
  paired_more xs i x ys y l is h r =
      subst (λ zs. AllZip R zs (ys ++ y ∷ [])) (ap (λ z. take i xs ++ z ∷ []) is ∙ sym (take_more xs i x l))
      (all_zipped_more R (take i xs) ys x y h r)
