-- A call by a pass: what the pass has seen before and after it.
use Rattle.std.specs.Prelude.{◌≡◌, ℕ, List, ◌++◌, All, Contains}
use Rattle.plan_model.specs.Types.{Entry}

-- an entry is of others: it carries none of these numbers
abbrev pub IsOthers : List ℕ → Entry → Type 0
IsOthers numbers e = Contains numbers e.pass → ⊥

-- a journal is what was seen of it, and then entries of others alone
pub record GoesOn (numbers : List ℕ) (seen journal : List Entry) : Type 0 where
  pub more : List Entry
  pub is : journal ≡ seen ++ more
  pub others : All (IsOthers numbers) more

-- a journal is what was found, and then entries that carry the pass's own number
pub record AddsOwn (pass : ℕ) (found journal : List Entry) : Type 0 where
  pub own : List Entry
  pub is : journal ≡ found ++ own
  pub made : All (λ e. e.pass ≡ pass) own

-- a call by a pass: what is seen afterwards is what was seen before, then entries of others, which the call found,
-- then the call's own entries, or nothing
pub record Calls (pass : ℕ) (numbers : List ℕ) (before after : List Entry) : Type 0 where
  pub found : List Entry
  pub goes_on : GoesOn numbers before found
  pub adds_own : AddsOwn pass found after
