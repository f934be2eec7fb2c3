-- A cut that is the book's own.
use Rattle.std.proofs.Common.{◌≡◌, Option, Some, None, refl}
use Rattle.std.specs.Prelude.{option_map, IfSome}
use Rattle.plan_model.specs.declared.cut.Cut.{Cut}
use Rattle.plan_book.specs.declared.stored.Stored.{Stored}
use Rattle.plan_book.specs.declared.stored.Stored.TheVariants as stored
use Rattle.plan_book.specs.Stored.{cut_in, in_own, IsOwnAnd}

-- what is made of a cut that is one's own
pub own_kept : (made : Cut → Cut) (holds : Cut → Type 0) (cut : Option Stored) → IfSome cut (IsOwnAnd holds)
    → option_map cut_in (option_map (in_own made) cut) ≡ option_map made (option_map cut_in cut)
own_kept made holds None own = refl
own_kept made holds (Some (stored.Shared cut)) own = absurd own
own_kept made holds (Some (stored.Own cut)) own = refl
