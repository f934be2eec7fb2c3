-- Names by position, and one name more behind the others.
use Rattle.std.proofs.Common.{◌≡◌, ℕ, ◌+◌, ◌-◌, ◌<◌, ◌≤◌, List, [], ◌∷◌, ◌++◌, length, drop, get_or, inl, inr, refl, sym, ap, subst, ◌∙◌, arith}
use Rattle.std.proofs.Math.Logic.{∥∥₁_elim}
use Rattle.std.proofs.Math.Bridge.{le_prop}
use Rattle.std.proofs.lemmas.Bool.{cases_eq}
use Rattle.std.proofs.lemmas.List.{length_push, get_or_push, get_or_default, get_or_append_left, take-append-le, drop-append-le, drop_at, take_all, length-append, length-drop}
use Rattle.std.proofs.lemmas.List.FromFn.{length-map-range_with_len, get_or-map-range_with_len, fill_by_all}
use Rattle.rail_model.specs.Name.{IsName}
use Rattle.rail_model.specs.Names.{start_at, name_at, names_of, AreNames}

-- a name has at most 64 bytes
pub is_short : (name : List ℕ) → ∥ IsName name ∥₁ → length name ≤ 64
is_short name named = ∥∥₁_elim named le_prop (λ n. n.short)

module _ (starts bytes : List ℕ) (names : List (List ℕ)) (same : names_of starts bytes ≡ names) where
  pub counted : length names ≡ length starts - 1
  counted = sym (ap length same) ∙ length-map-range_with_len (name_at starts bytes) 0 (length starts - 1)

  pub is_there : (i : ℕ) → i < length names → i + 1 < length starts
  is_there i l = omega (arith, l, counted)

  pub name_is : (i : ℕ) → i < length names → name_at starts bytes i ≡ get_or names i []
  name_is i l =
      sym (get_or-map-range_with_len (name_at starts bytes) 0 (length starts - 1) i i [] (omega (arith, l, counted)) (omega arith))
      ∙ ap (λ ns. get_or ns i []) same

-- the last start that is read is the end of the bytes
pub last_is : (starts bytes : List ℕ) (n start : ℕ) → AreNames starts bytes → n ≡ length starts → start ≡ get_or starts (n - 1) start
    → start ≡ length bytes
last_is starts bytes n start are e is =
    let some = are.some in
    is
    ∙ get_or_default starts (n - 1) start 0 (omega (arith, e, some))
    ∙ subst (λ k. get_or starts (k - 1) 0 ≡ length bytes) (sym e) are.ends

module _ (starts bytes name : List ℕ) (end : ℕ) (are : AreNames starts bytes) (e : end ≡ length bytes + length name) where
  abbrev more : List ℕ
  more = starts ++ end ∷ []

  earlier : (i : ℕ) → i < length starts → start_at more i ≡ start_at starts i
  earlier i l = get_or_append_left starts (end ∷ []) 0 i l

  last_start : (i : ℕ) → i + 1 ≡ length starts → start_at more (i + 1) ≡ end
  last_start i l = get_or_push starts end 0 (i + 1) (sym l)

  from : (i : ℕ) → i + 1 ≡ length starts → start_at more i ≡ length bytes
  from i l =
      let same : length starts - 1 ≡ i = omega (arith, l) in
      earlier i (omega (arith, l)) ∙ subst (λ k. start_at starts k ≡ length bytes) same are.ends

  older : (i : ℕ) → i + 1 < length starts → name_at more (bytes ++ name) i ≡ name_at starts bytes i
  older i l =
      let its = are.each i l in
      let s = start_at starts i in
      let t = start_at starts (i + 1) in
      let room : t - s ≤ length (drop s bytes) = omega (arith, its.within, length-drop s bytes) in
      rw (earlier i (omega (arith, l)), earlier (i + 1) l, drop-append-le s bytes name (omega (arith, its.rises, its.within)))
      (take-append-le (t - s) (drop s bytes) name room)

  newest : (i : ℕ) → i + 1 ≡ length starts → name_at more (bytes ++ name) i ≡ name
  newest i l =
      rw (last_start i l, from i l, drop_at bytes name (length bytes) refl)
      (take_all (end - length bytes) name (omega (arith, e)))

  pub added : names_of starts bytes ++ name ∷ [] ≡ names_of more (bytes ++ name)
  added =
      let before = names_of starts bytes in
      let n = length starts - 1 in
      let some = are.some in
      let count : length before ≡ n = length-map-range_with_len (name_at starts bytes) 0 n in
      let all : length (before ++ name ∷ []) ≡ length more - 1 = omega (arith, count, some, length_push before name, length_push starts end) in
      fill_by_all (name_at more (bytes ++ name)) (before ++ name ∷ []) (length more - 1) [] all (λ k l.
      elim (cases_eq k n) [
        | inl is ↦ get_or_push before name [] k (count ∙ sym is) ∙ sym (newest k (omega (arith, is, some)))
        | inr other ↦
            let here : k < n = omega (arith, l, other, length_push starts end) in
            get_or_append_left before (name ∷ []) [] k (omega (arith, here, count))
            ∙ get_or-map-range_with_len (name_at starts bytes) 0 n k k [] here (omega arith)
            ∙ sym (older k (omega (arith, here)))
      ])

  pub are_still : ∥ IsName name ∥₁ → AreNames more (bytes ++ name)
  are_still named =
      let some = are.some in
      let long = length_push starts end in
      let total = length-append bytes name in
      record {
        some = omega (arith, long);
        ends =
            let last : length more - 1 ≡ (length starts - 1) + 1 = omega (arith, long, some) in
            subst (λ k. start_at more k ≡ length (bytes ++ name)) (sym last) (last_start (length starts - 1) (omega (arith, some)) ∙ e ∙ sym total);
        each = λ i l.
            elim (cases_eq (i + 1) (length starts)) [
              | inl is ↦ record {
                rises = omega (arith, from i is, last_start i is, e);
                within = omega (arith, last_start i is, e, total);
                named = subst (λ n. ∥ IsName n ∥₁) (sym (newest i is)) named;
              }
              | inr other ↦
                  let here : i + 1 < length starts = omega (arith, l, other, long) in
                  let its = are.each i here in
                  record {
                    rises = omega (arith, its.rises, earlier i (omega (arith, here)), earlier (i + 1) here);
                    within = omega (arith, its.within, earlier (i + 1) here, total);
                    named = subst (λ n. ∥ IsName n ∥₁) (sym (older i here)) its.named;
                  }
            ];
      }
