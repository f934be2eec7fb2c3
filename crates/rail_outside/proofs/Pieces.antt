-- Pieces of a text that are written one after the other. A text is appended to what a sink holds and to what it took: for the
-- latter, `Appends (Some a) (Some b) text` is `b ≡ a ++ text`.
use Rattle.std.proofs.Common.{◌≡◌, ℕ, ◌+◌, ◌-◌, ◌<◌, ◌≤◌, List, [], ◌∷◌, ◌++◌, length, take, drop, get_or, flat_map, Option, Some, Result, Ok, Err, OnErr, refl, sym, ap, ◌∙◌, subst, arith, append-nil, length-append, length-drop, take-append-drop}
use Rattle.std.specs.Global.{Vec}
use Rattle.std.proofs.lemmas.List.{take_all, take_at, take_more, take-append-le, drop_at, drop_more}
use Rattle.std.proofs.lemmas.List.Concat.{flat_map-append}
use Rattle.std.proofs.Math.Seq.{take-add}
use Rattle.std.specs.Io.KnownBytes.{Appends, Keeps}
use Rattle.std.proofs.KnownBytes.{Appends-kept, Appends-trans}

-- what is left from m on is as long as that
take_rest : (bytes : List ℕ) (m : ℕ) → take (length bytes - m) (drop m bytes) ≡ drop m bytes
take_rest bytes m = take_all (length bytes - m) (drop m bytes) (omega (arith, length-drop m bytes))

-- m bytes of a text are written, and then n of those that follow
pub Appends-more : (a b c : Option (List ℕ)) (text : List ℕ) (m n : ℕ) → Appends a b (take m text)
    → Appends b c (take n (take (length text - m) (drop m text))) → Appends a c (take (m + n) text)
Appends-more a b c text m n first second =
    let piece : List ℕ → Type 0 = λ l. Appends b c (take n l) in
    let next : Appends b c (take n (drop m text)) = subst piece (take_rest text m) second in
    subst (Appends a c) (sym (take-add m n text)) (Appends-trans a b c _ _ first next)

-- a whole text is a prefix of itself
pub Appends-whole : (a b : Option (List ℕ)) (t u text : List ℕ) → Appends a b text → u ≡ t ++ text
    → (n : ℕ) × (n ≤ length text) × Appends a b (take n text) × (u ≡ t ++ take n text)
Appends-whole a b t u text all took =
    let is : text ≡ take (length text) text = sym (take_all (length text) text (omega arith)) in
    (length text, omega arith, subst (Appends a b) is all, subst (λ l. u ≡ t ++ l) is took)

-- what holds after an error
pub after_error : {T E P : Type 0} (result : Result T E) → P → OnErr result P
after_error (Ok x) p = tt
after_error (Err e) p = p

-- the bytes of pieces that are written one after the other
abbrev bytes_of : List (Vec ℕ) → List ℕ
bytes_of pieces = flat_map (λ piece. piece.items) pieces

-- all are written, and nothing after them
pub Appends-all : (a b c : Option (List ℕ)) (pieces : List (Vec ℕ)) (i : ℕ) → length pieces ≤ i → Appends a b (bytes_of (take i pieces)) → Keeps b c
    → Appends a c (bytes_of pieces)
Appends-all a b c pieces i all before kept =
    subst (λ ps. Appends a c (bytes_of ps)) (take_all i pieces all) (Appends-kept a b c _ before kept)

-- the pieces before the i-th are written, which is this text
module _ (pieces : List (Vec ℕ)) (i : ℕ) (there : i < length pieces) (d : Vec ℕ) (text : List ℕ) (is : text ≡ (get_or pieces i d).items) where
  abbrev front : List ℕ
  front = bytes_of (take i pieces)

  abbrev rest : List ℕ
  rest = bytes_of (drop (i + 1) pieces)

  whole : bytes_of pieces ≡ front ++ (text ++ rest)
  whole =
      ap bytes_of (sym (take-append-drop i pieces)) ∙ flat_map-append (λ piece. piece.items) (take i pieces) (drop i pieces)
      ∙ ap (λ later. front ++ bytes_of later) (drop_more pieces i d there) ∙ ap (λ bytes. front ++ (bytes ++ rest)) (sym is)

  one_more : bytes_of (take (i + 1) pieces) ≡ front ++ text
  one_more =
      ap bytes_of (take_more pieces i d there) ∙ flat_map-append (λ piece. piece.items) (take i pieces) (get_or pieces i d ∷ [])
      ∙ ap (λ bytes. front ++ bytes) (append-nil (get_or pieces i d).items ∙ sym is)

  -- and then all of it
  pub Appends-piece : (a b c : Option (List ℕ)) → Appends a b front → Appends b c text → Appends a c (bytes_of (take (i + 1) pieces))
  Appends-piece a b c before next = subst (Appends a c) (sym one_more) (Appends-trans a b c _ _ before next)

  part : (n : ℕ) → n ≤ length text → take (length front + n) (bytes_of pieces) ≡ front ++ take n text
  part n within =
      ap (take (length front + n)) whole ∙ take-add (length front) n (front ++ (text ++ rest))
      ∙ rw (take_at front (text ++ rest) (length front) refl, drop_at front (text ++ rest) (length front) refl)
      (ap (λ bytes. front ++ bytes) (take-append-le n text rest within))

  -- and then n bytes of it
  pub Appends-part : (a b c : Option (List ℕ)) (t u v : List ℕ) → Appends a b front → u ≡ t ++ front
      → (n : ℕ) → n ≤ length text → Appends b c (take n text) → v ≡ u ++ take n text
      → (m : ℕ) × (m ≤ length (bytes_of pieces)) × Appends a c (take m (bytes_of pieces)) × (v ≡ t ++ take m (bytes_of pieces))
  Appends-part a b c t u v before took n within next takes = (
    length front + n,
    omega (arith, within, ap length whole, length-append front (text ++ rest), length-append text rest),
    subst (Appends a c) (sym (part n within)) (Appends-trans a b c _ _ before next),
    subst (λ bytes. v ≡ t ++ bytes) (sym (part n within)) (Appends-trans (Some t) (Some u) (Some v) front (take n text) took takes),
  )
