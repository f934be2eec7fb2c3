-- A list of entries that grows, as one who has seen a prefix of it finds it again.
use Rattle.std.specs.Prelude.{◌≡◌, ◌⊎◌, ℕ, ◌≤◌, List, ◌∷◌, ◌++◌, All, Contains}

-- a longer list that begins with a list has issued no fewer passes
abbrev pub NeverIssuesFewer : {E : Type 0} → (List E → ℕ) → Type 0
NeverIssuesFewer {E} issued_by = (xs ys : List E) → issued_by xs ≤ issued_by (xs ++ ys)

-- each prefix of a legal list that has at least one entry is legal
abbrev pub HasLegalPrefixes : {E : Type 0} → (List E → Type 0) → Type 0
HasLegalPrefixes {E} is_legal = (e : E) (xs ys : List E) → is_legal (e ∷ xs ++ ys) → is_legal (e ∷ xs)

-- no number stands in both lists
abbrev pub HaveNoneInCommon : List ℕ → List ℕ → Type 0
HaveNoneInCommon ns ms = (n : ℕ) → Contains ns n → Contains ms n → ⊥

module _ {E : Type 0} (pass_of : E → ℕ) where
  -- the entry carries none of the numbers
  abbrev pub IsOthers : List ℕ → E → Type 0
  IsOthers numbers e = Contains numbers (pass_of e) → ⊥

  -- the list is what was seen, and then entries of others alone: none carries one of the numbers
  pub record GoesOn (numbers : List ℕ) (seen log : List E) : Type 0 where
    pub more : List E
    pub is : log ≡ seen ++ more
    pub others : All (IsOthers numbers) more

  -- one of two seen parts begins with the other, and what the longer has beyond it carries none of the
  -- numbers of the pass with the shorter
  abbrev pub OneGoesOn : List ℕ → List E → List ℕ → List E → Type 0
  OneGoesOn ns xs ms ys = GoesOn ns xs ys ⊎ GoesOn ms ys xs

  -- the list is what was found, and then entries that carry the number
  pub record AddsOwn (number : ℕ) (found log : List E) : Type 0 where
    pub own : List E
    pub is : log ≡ found ++ own
    pub made : All (λ e. pass_of e ≡ number) own

  -- A call by a pass: what is seen afterwards is what was seen before, then entries of others, which the call
  -- found, then the call's own entries, or nothing
  pub record Calls (number : ℕ) (numbers : List ℕ) (before after : List E) : Type 0 where
    pub found : List E
    pub goes_on : GoesOn numbers before found
    pub adds_own : AddsOwn number found after
