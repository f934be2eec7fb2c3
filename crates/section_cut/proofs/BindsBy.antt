-- Whether a connection binds depends on the entries of its runs and on the second one's start; a row depends on its run's
-- uses of blocks and on the connections that bind.
use Rattle.std.proofs.Common.{◌≡◌, ℕ, ℤ, ◌+◌, Bool, true, false, cond, ◌&&◌, List, [], ◌∷◌, ◌++◌, length, map, Option, Some, None, refl, sym, ap, ◌∙◌, inl, inr}
use Rattle.std.specs.Prelude.{All, filter, pos}
use Rattle.std.specs.List.{filter_map, enumerate_from}
use Rattle.std.proofs.lemmas.Bool.{cases_Bool}
use Rattle.std.proofs.lemmas.List.Elements.{All-head, All-tail}
use Rattle.rail_model.specs.declared.items.Run.{Run}
use Rattle.rail_model.specs.declared.items.Section.{Section}
use Rattle.rail_model.specs.declared.items.Connection.{Connection}
use Rattle.rail_model.specs.declared.tables.Tables.{Tables}
use Rattle.rail_model.specs.declared.stair.Use.{Use}
use Rattle.rail_model.specs.Name.{is_same}
use Rattle.rail_model.specs.Tables.{run_named, last_arrival}
use Rattle.plan_model.specs.declared.cut.CutRow.{CutRow}
use Rattle.plan_model.specs.Cut.{least, section_uses, entry_of, is_member, binds, binding_connections, connection_use, row_of}
use Rattle.plan_model.specs.Members.{comes_before}
use Rattle.section_cut.specs.Members.{enters}
use Rattle.section_cut.specs.Connected.{entry_in}

-- tests that agree at what passes a third one, and at what doesn't, keep the same items
pub filter_parted : {X : Type 0} (p q t : X → Bool) (xs : List X) → All (λ x. t x ≡ false → p x ≡ q x) xs → All (λ x. p x ≡ q x) (filter t xs)
    → filter p xs ≡ filter q xs
filter_parted p q t [] other own = refl
filter_parted p q t (x ∷ xs) other own =
    let rest : All (λ x. t x ≡ false → p x ≡ q x) xs = All-tail (λ x. t x ≡ false → p x ≡ q x) x xs other in
    elim (cases_Bool (t x)) [
      | inl e ↦
          let mine : All (λ x. p x ≡ q x) (x ∷ filter t xs) = rw e at own in
          step (p x) (q x) (All-head (λ x. p x ≡ q x) x (filter t xs) mine)
          (filter_parted p q t xs rest (All-tail (λ x. p x ≡ q x) x (filter t xs) mine))
      | inr e ↦
          let mine : All (λ x. p x ≡ q x) (filter t xs) = rw e at own in
          step (p x) (q x) (All-head (λ x. t x ≡ false → p x ≡ q x) x xs other e) (filter_parted p q t xs rest mine)
    ]
  where
    step : (a b : Bool) → a ≡ b → filter p xs ≡ filter q xs → cond a (x ∷ filter p xs) (filter p xs) ≡ cond b (x ∷ filter q xs) (filter q xs)
    step a b same more = ap (λ c. cond c (x ∷ filter p xs) (filter p xs)) same ∙ ap (λ ys. cond b (x ∷ ys) ys) more

pub filter_same : {X : Type 0} (p q : X → Bool) (xs : List X) → All (λ x. p x ≡ q x) xs → filter p xs ≡ filter q xs
filter_same p q [] same = refl
filter_same p q (x ∷ xs) same =
    ap (λ b. cond b (x ∷ filter p xs) (filter p xs)) (All-head (λ x. p x ≡ q x) x xs same)
    ∙ ap (λ ys. cond (q x) (x ∷ ys) ys) (filter_same p q xs (All-tail (λ x. p x ≡ q x) x xs same))

-- ---- whether a connection binds, by entries

abbrev pub binds_by : Option ℤ → Option ℤ → ℕ → Connection → Bool
binds_by None second start c = false
binds_by (Some e) None start c = false
binds_by (Some e) (Some f) start c = comes_before e c.first (pos start) c.second

by_members : (a b : Bool) (e f : ℤ) (start : ℕ) (c : Connection)
    → ((a && b) && comes_before e c.first (pos start) c.second) ≡ binds_by (cond a (Some e) None) (cond b (Some f) None) start c
by_members true true e f start c = refl
by_members true false e f start c = refl
by_members false true e f start c = refl
by_members false false e f start c = refl

pub binds_is : (tables : Tables) (s : Section) (c : Connection) → binds tables s c
    ≡ binds_by (entry_in tables s (run_named tables c.first)) (entry_in tables s (run_named tables c.second)) (run_named tables c.second).start_s c
binds_is tables s c =
    let first = run_named tables c.first in
    let second = run_named tables c.second in
    by_members (is_member tables s first) (is_member tables s second) (entry_of tables s first) (entry_of tables s second) second.start_s c

pub binds_same : (earlier later : Tables) (s : Section) (c : Connection)
    → entry_in later s (run_named later c.first) ≡ entry_in earlier s (run_named earlier c.first)
    → entry_in later s (run_named later c.second) ≡ entry_in earlier s (run_named earlier c.second)
    → (run_named later c.second).start_s ≡ (run_named earlier c.second).start_s → binds later s c ≡ binds earlier s c
binds_same earlier later s c first second start =
    binds_is later s c
    ∙ ap (λ e. binds_by e (entry_in later s (run_named later c.second)) (run_named later c.second).start_s c) first
    ∙ ap (λ e. binds_by (entry_in earlier s (run_named earlier c.first)) e (run_named later c.second).start_s c) second
    ∙ ap (λ n. binds_by (entry_in earlier s (run_named earlier c.first)) (entry_in earlier s (run_named earlier c.second)) n c) start
    ∙ sym (binds_is earlier s c)

-- the same uses give the same entry
pub entry_same : (earlier later : Tables) (s : Section) (run : Run) → section_uses later s run ≡ section_uses earlier s run
    → entry_in later s run ≡ entry_in earlier s run
entry_same earlier later s run same =
    ap (λ uses. cond (enters s uses) (Some (least (map (λ (u : Use). u.start) uses))) None) same

-- ---- a row, by its run's uses of blocks and last arrival, and by the connections that bind

abbrev pub use_by : Run → ℤ → ℕ → ℕ × Connection → Option Use
use_by run entry last (place, c) =
    cond (is_same c.first run.name) (Some (record { block = place; start = entry; «end» = pos (last + c.minimum_s) }))
    (cond (is_same c.second run.name) (Some (record { block = place; start = pos run.start_s; «end» = pos (run.start_s + 1) })) None)

abbrev pub row_by : Section → Run → List Use → ℕ → List Connection → CutRow
row_by s run uses last binding = record {
  name = run.name;
  stamp = 0;
  entry = least (map (λ u. u.start) uses);
  uses = uses ++ filter_map (use_by run (least (map (λ u. u.start) uses)) last) (enumerate_from (length s.blocks) binding);
}

pub row_is : (tables : Tables) (s : Section) (run : Run)
    → row_of tables s run ≡ row_by s run (section_uses tables s run) (last_arrival tables run) (binding_connections tables s)
row_is tables s run = refl

-- a run's use of one of its connections
pub first_use_is : (tables : Tables) (s : Section) (run : Run) (place : ℕ) (c : Connection) → is_same c.first run.name ≡ true
    → connection_use tables s run (place, c) ≡ Some (record { block = place; start = entry_of tables s run; «end» = pos (last_arrival tables run + c.minimum_s) })
first_use_is tables s run place c e = rw e refl

pub second_use_is : (tables : Tables) (s : Section) (run : Run) (place : ℕ) (c : Connection) → is_same c.first run.name ≡ false → is_same c.second run.name ≡ true
    → connection_use tables s run (place, c) ≡ Some (record { block = place; start = pos run.start_s; «end» = pos (run.start_s + 1) })
second_use_is tables s run place c e g = rw (e, g) refl

-- a row of a member has the run's entry
pub entry_is : (tables : Tables) (s : Section) (run : Run) (entry : ℤ) → Some entry ≡ entry_in tables s run → entry ≡ entry_of tables s run
entry_is tables s run entry is = by_test (is_member tables s run) (entry_of tables s run) is
  where
    by_test : (b : Bool) (e : ℤ) → Some entry ≡ cond b (Some e) None → entry ≡ e
    by_test true e is = cc
    by_test false e is = absurd (cc)
