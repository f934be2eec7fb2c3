-- A run's uses of connections: their places, their moments, and which runs use a connection.
use Rattle.std.proofs.Common.{◌≡◌, ◌≢◌, ℕ, zero, suc, ◌+◌, ◌<◌, ◌≤◌, Bool, true, false, ◌&&◌, ◌||◌, ◌==◌, List, [], ◌∷◌, length, get_or, All, AllPairs, Option, Some, None, refl, ◌∙◌, inl, inr, arith}
use Rattle.std.specs.Prelude.{IfSome, pos}
use Rattle.std.specs.List.{filter_map, cons_option, enumerate_from, list_any}
use Rattle.std.proofs.lemmas.Bool.{cases_Bool, eq-eqb, ne_eqb, and_right}
use Rattle.std.proofs.lemmas.List.Elements.{All-head, All-tail, All-cons, All-weaker}
use Rattle.std.proofs.lemmas.List.Kept.{AllPairs-cons}
use Rattle.rail_model.specs.declared.items.Run.{Run}
use Rattle.rail_model.specs.declared.items.Section.{Section}
use Rattle.rail_model.specs.declared.items.Connection.{Connection}
use Rattle.rail_model.specs.declared.tables.Tables.{Tables}
use Rattle.rail_model.specs.declared.stair.Use.{Use}
use Rattle.rail_model.specs.Name.{is_same}
use Rattle.rail_model.specs.Tables.{last_arrival}
use Rattle.plan_model.specs.Cut.{entry_of, connection_use}

-- a use of one of the places from a first one on, with what else holds of it
abbrev pub IsAmong : (Use → Type 0) → ℕ → ℕ → Use → Type 0
IsAmong P from count u = (from ≤ u.block) × (u.block < from + count) × P u

abbrev IsAtPlace : (Use → Type 0) → ℕ → Use → Type 0
IsAtPlace P place u = (u.block ≡ place) × P u

among_next : (P : Use → Type 0) (n m : ℕ) (u : Use) → IsAmong P (n + 1) m u → IsAmong P n (suc m) u
among_next P n m u h = (omega (arith, h.0), omega (arith, h.1), h.2)

among_joined : (P : Use → Type 0) (n m : ℕ) (o : Option Use) (us : List Use) → IfSome o (IsAtPlace P n) → All (IsAmong P (n + 1) m) us
    → All (IsAmong P n (suc m)) (cons_option o us)
among_joined P n m None us one rest = All-weaker (IsAmong P (n + 1) m) (IsAmong P n (suc m)) (among_next P n m) us rest
among_joined P n m (Some u) us one rest =
    All-cons (IsAmong P n (suc m)) u us (omega (arith, one.0), omega (arith, one.0), one.1)
    (All-weaker (IsAmong P (n + 1) m) (IsAmong P n (suc m)) (among_next P n m) us rest)

apart_joined : (P : Use → Type 0) (n m : ℕ) (o : Option Use) (us : List Use) → IfSome o (IsAtPlace P n) → All (IsAmong P (n + 1) m) us
    → AllPairs (λ (u : Use) (v : Use). u.block ≢ v.block) us → AllPairs (λ (u : Use) (v : Use). u.block ≢ v.block) (cons_option o us)
apart_joined P n m None us one rest pairs = pairs
apart_joined P n m (Some u) us one rest pairs =
    AllPairs-cons (λ (u : Use) (v : Use). u.block ≢ v.block) u us
    (λ k d l same. let later = rest k d l in absurd (omega (arith, one.0, later.0, same))) pairs

module _ (tables : Tables) (section : Section) (run : Run) where
  -- the uses of some connections at the places from a first one on
  abbrev pub numbered : ℕ → List Connection → List Use
  numbered n some = filter_map (connection_use tables section run) (enumerate_from n some)

  -- what holds of the use of a connection by its first run, and by its second
  pub at_connection : (P : Use → Type 0) (c : Connection)
      → ((place : ℕ) → P (record { block = place; start = entry_of tables section run; «end» = pos (last_arrival tables run + c.minimum_s) }))
      → ((place : ℕ) → P (record { block = place; start = pos run.start_s; «end» = pos (run.start_s + 1) }))
      → (place : ℕ) → IfSome (connection_use tables section run (place, c)) (IsAtPlace P place)
  at_connection P c first second place =
      elim (cases_Bool (is_same c.first run.name)) [
        | inl e ↦ rw e (refl, first place)
        | inr e ↦ elim (cases_Bool (is_same c.second run.name)) [
          | inl g ↦ rw (e, g) (refl, second place)
          | inr g ↦ rw (e, g) tt
        ]
      ]

  pub numbered_among : (P : Use → Type 0) (n : ℕ) (some : List Connection)
      → All (λ c. (place : ℕ) → IfSome (connection_use tables section run (place, c)) (IsAtPlace P place)) some
      → All (IsAmong P n (length some)) (numbered n some)
  numbered_among P n [] each = λ k d l. absurd (omega (arith, l))
  numbered_among P n (c ∷ some) each =
      let Q : Connection → Type 0 = λ c. (place : ℕ) → IfSome (connection_use tables section run (place, c)) (IsAtPlace P place) in
      among_joined P n (length some) (connection_use tables section run (n, c)) (numbered (n + 1) some) (All-head Q c some each n)
      (numbered_among P (n + 1) some (All-tail Q c some each))

  pub numbered_apart : (P : Use → Type 0) (n : ℕ) (some : List Connection)
      → All (λ c. (place : ℕ) → IfSome (connection_use tables section run (place, c)) (IsAtPlace P place)) some
      → AllPairs (λ (u : Use) (v : Use). u.block ≢ v.block) (numbered n some)
  numbered_apart P n [] each = λ i j d before below. absurd (omega (arith, below))
  numbered_apart P n (c ∷ some) each =
      let Q : Connection → Type 0 = λ c. (place : ℕ) → IfSome (connection_use tables section run (place, c)) (IsAtPlace P place) in
      apart_joined P n (length some) (connection_use tables section run (n, c)) (numbered (n + 1) some) (All-head Q c some each n)
      (numbered_among P (n + 1) some (All-tail Q c some each)) (numbered_apart P (n + 1) some (All-tail Q c some each))

  -- whether a place is used, by the first connection and the others
  first_used : (c : Connection) (n place : ℕ) (us : List Use)
      → list_any (λ u. u.block == place) (cons_option (connection_use tables section run (n, c)) us)
      ≡ (((is_same c.first run.name || is_same c.second run.name) && (n == place)) || list_any (λ u. u.block == place) us)
  first_used c n place us =
      elim (cases_Bool (is_same c.first run.name)) [
        | inl e ↦ rw e refl
        | inr e ↦ elim (cases_Bool (is_same c.second run.name)) [
          | inl g ↦ rw (e, g) refl
          | inr g ↦ rw (e, g) refl
        ]
      ]

  none_before : (n place : ℕ) (some : List Connection) → place < n → list_any (λ u. u.block == place) (numbered n some) ≡ false
  none_before n place [] before = refl
  none_before n place (c ∷ some) before =
      let away : (n == place) ≡ false = ne_eqb n place (λ e. absurd (omega (arith, e, before))) in
      first_used c n place (numbered (n + 1) some)
      ∙ rw (and_right (is_same c.first run.name || is_same c.second run.name) (n == place) away) (none_before (n + 1) place some (omega (arith, before)))

  -- a connection's place is used by the runs that it names
  pub used_by : (n place k : ℕ) (some : List Connection) (d : Connection) → place ≡ n + k → k < length some
      → list_any (λ u. u.block == place) (numbered n some)
      ≡ (is_same (get_or some k d).first run.name || is_same (get_or some k d).second run.name)
  used_by n place k [] d at l = absurd (omega (arith, l))
  used_by n place zero (c ∷ some) d at l =
      let here : (n == place) ≡ true = eq-eqb n place (omega (arith, at)) in
      let rest = none_before (n + 1) place some (omega (arith, at)) in
      first_used c n place (numbered (n + 1) some) ∙ rw (here, rest) (last (is_same c.first run.name || is_same c.second run.name))
    where
      last : (b : Bool) → ((b && true) || false) ≡ b
      last true = refl
      last false = refl
  used_by n place (suc k) (c ∷ some) d at l =
      let away : (n == place) ≡ false = ne_eqb n place (λ e. absurd (omega (arith, e, at))) in
      first_used c n place (numbered (n + 1) some)
      ∙ rw (and_right (is_same c.first run.name || is_same c.second run.name) (n == place) away)
      (used_by (n + 1) place k some d (omega (arith, at)) (omega (arith, l)))
