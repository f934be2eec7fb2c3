-- The last uses of places, use after use.
use Rattle.std.proofs.Common.{◌≡◌, ℕ, ◌<◌, List, length, inl, inr, sym}
use Rattle.std.specs.Prelude.{ℤ, ◌+ℤ◌, ◌-ℤ◌, Option, None, Some, slice_index_or, slice_set}
use Rattle.std.proofs.lemmas.Bool.{cases_eq, eq-eqb, ne_eqb}
use Rattle.std.proofs.lemmas.Grind.{get_or-set_at}
use Rattle.std.proofs.lemmas.List.{get_or-set_other}
use Rattle.rail_model.specs.declared.stair.Use.{Use}
use Rattle.train_placing.specs.declared.last.Last.{Last}
use Rattle.train_placing.specs.Last.{with_use}

pub set_with_use : (last : List (Option Last)) (u : Use) (planned : ℤ) (train : ℕ) (entry : ℤ) (p : ℕ)
    → u.block < length last
    → slice_index_or
    (slice_set last u.block (Some (record { until = u.«end» -ℤ planned +ℤ entry; train = train }))) p None
    ≡ with_use planned train entry p (slice_index_or last p None) u
set_with_use last u planned train entry p l =
    let x = Some (record { until = u.«end» -ℤ planned +ℤ entry; train = train }) in
    elim (cases_eq u.block p) [
      | inl e ↦ rw (eq-eqb u.block p e) (get_or-set_at last u.block p x None (sym e) l)
      | inr ne ↦ rw (ne_eqb u.block p ne) (get_or-set_other last u.block p x None (λ e. ne (sym e)))
    ]
