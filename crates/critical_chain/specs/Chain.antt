-- Chains: which trains, each touched by the next, make a train enter no earlier.
use Rattle.std.specs.Prelude.{◌≡◌, ℕ, zero, suc, ◌<◌, List, [], ◌∷◌, ◌++◌, length, slice_index_or}
use Rattle.plan_model.specs.declared.answer.Tie.{Tie}
use Rattle.plan_model.specs.declared.answer.Tie.TheVariants.{Start, After}
use Rattle.plan_model.specs.declared.answer.Placed.{Placed}
use Rattle.plan_model.specs.declared.answer.Plan.{Plan}
use Rattle.plan_model.specs.declared.answer.Link.{Link}
pub use Rattle.plan_model.specs.Answer.{IsPlanOf, IsPlan}
pub use Rattle.plan_model.specs.PlacedList.{no_train}

-- the train at a position of a plan, from 0, and its tie
abbrev pub train_at : Plan → ℕ → Placed
train_at plan i = slice_index_or plan.placed i no_train

abbrev pub tie_at : Plan → ℕ → Tie
tie_at plan i = (train_at plan i).tie

-- the link that says: train i precedes train j at a place
abbrev pub link_at : Plan → ℕ → ℕ → ℕ → Link
link_at plan i block j = record {
  train = (train_at plan i).train;
  block = slice_index_or plan.blocks block [];
  next = (train_at plan j).train;
}

-- these links lead from train i to train j: the first is of train i to the next train, and is that one's tie; the
-- others lead from there to train j
abbrev pub Leads : Plan → ℕ → List Link → ℕ → Type 0
Leads plan i [] j = i ≡ j
Leads plan i (link ∷ links) j =
    (next : ℕ) × (block : ℕ) × (next < length plan.placed) × (tie_at plan next ≡ After i block)
    × (link ≡ link_at plan i block next) × Leads plan next links j

-- the chain of a train: the links lead to it from a train that enters at the window's start
abbrev pub IsChain : Plan → ℕ → List Link → Type 0
IsChain plan train links =
    (first : ℕ) × (first < length plan.placed) × (tie_at plan first ≡ Start) × Leads plan first links train

-- a train of a plan has at most one chain
abbrev pub ChainIsUnique : Type 0
ChainIsUnique =
    (plan : Plan) (train : ℕ) (links other : List Link) → IsChain plan train links → IsChain plan train other
    → links ≡ other

-- ---- the chain as a function

-- the links behind a train by its tie, with those behind the train that it touches
abbrev pub through_tie : Plan → (ℕ → List Link) → ℕ → Tie → List Link
through_tie plan behind j Start = []
through_tie plan behind j (After i block) = behind i ++ link_at plan i block j ∷ []

-- the links that lead to train j by at most n ties back from it
abbrev pub chain_back : Plan → ℕ → ℕ → List Link
chain_back plan zero j = []
chain_back plan (suc n) j = through_tie plan (chain_back plan n) j (tie_at plan j)

-- the chain of a train of a compressed timetable, which has fewer links than there are trains
abbrev pub chain_of : Plan → ℕ → List Link
chain_of plan train = chain_back plan (length plan.placed) train

-- these links are the train's chain
abbrev pub ChainIsOf : Type 0
ChainIsOf = (plan : Plan) (train : ℕ) → IsPlan plan → train < length plan.placed → IsChain plan train (chain_of plan train)
