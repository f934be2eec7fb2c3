-- Names of blocks, signals, routes, runs, sections and connections.
use Rattle.std.specs.Prelude.{◌≡◌, ◌≢◌, ℕ, ◌<◌, ◌≤◌, Bool, true, false, not, ◌==◌, ◌&&◌, ◌||◌, nat_lt, nat_le, if◌then◌else◌, Option, Some, None, List, [], ◌∷◌, ◌++◌, ◌-◌, length, replicate, All, AllPairs}
use Rattle.std.specs.List.{list_any, list_all}
use Rattle.std.specs.Cmp.Lexicographic.{slice_cmp}
use Rattle.std.specs.Ordering.{nat_cmp, is_lt}
use Rattle.std.specs.declared.cmp.Ordering.TheVariants.{Less}
use Rattle.std.specs.Str.{IsUtf8, bytes_eq, is_utf8}
use Rattle.rail_model.specs.declared.name.TheConstants.{NAME_BYTES}

-- a byte of a name: no control character of ASCII
abbrev pub IsNameByte : ℕ → Type 0
IsNameByte b = (32 ≤ b) × (b ≢ 127)

-- 1 to 64 bytes of UTF-8 without a control character of ASCII
pub record IsName (bytes : List ℕ) : Type 0 where
  pub some : 0 < length bytes
  pub short : length bytes ≤ NAME_BYTES
  pub plain : All IsNameByte bytes
  pub text : IsUtf8 bytes

-- names are ordered by their bytes
abbrev pub IsBefore : List ℕ → List ℕ → Type 0
IsBefore a b = slice_cmp nat_cmp a b ≡ Less

-- whether one name comes before another, and whether two names are the same
abbrev pub is_before : List ℕ → List ℕ → Bool
is_before a b = is_lt (slice_cmp nat_cmp a b)

abbrev pub is_same : List ℕ → List ℕ → Bool
is_same a b = bytes_eq a b

-- the names of the items rise, so no two are the same
abbrev pub NamesRise : {X : Type 0} → (X → List ℕ) → List X → Type 0
NamesRise name items = AllPairs (λ a b. IsBefore (name a) (name b)) items

-- whether a name stands twice
abbrev pub has_repeat : List (List ℕ) → Bool
has_repeat [] = false
has_repeat (a ∷ names) = list_any (is_same a) names || has_repeat names

-- the test for a name
abbrev pub is_name_byte : ℕ → Bool
is_name_byte b = nat_le 32 b && not (b == 127)

abbrev pub is_name : List ℕ → Bool
is_name bytes =
    nat_lt 0 (length bytes) && nat_le (length bytes) NAME_BYTES && list_all is_name_byte bytes && is_utf8 bytes

-- the bytes are a name, and the room has them with zeros behind
pub record IsFilled (bytes room : List ℕ) : Type 0 where
  pub named : is_name bytes ≡ true
  pub filled : room ≡ bytes ++ replicate (NAME_BYTES - length bytes) 0

-- the name that the bytes are, if they are one
abbrev pub name_of : List ℕ → Option (List ℕ)
name_of bytes = if is_name bytes then Some bytes else None
