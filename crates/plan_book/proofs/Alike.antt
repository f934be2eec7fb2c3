-- Shelves that differ at most in who may hold their cuts.
use Rattle.std.proofs.Common.{◌≡◌, ℕ, suc, ◌<◌, List, [], ◌∷◌, length, get_or, Option, Some, None, refl, sym, ap, ◌∙◌, subst, inl, inr, arith}
use Rattle.std.specs.Prelude.{unwrap_or, All, IfSome}
use Rattle.std.specs.declared.alloc.Global.{Global}
use Rattle.std.specs.declared.vec.Vec.{Vec}
use Rattle.rail_model.specs.declared.tables.Tables.{Tables}
use Rattle.rail_model.specs.Name.{NamesRise}
use Rattle.rail_model.specs.Rules.{is_named}
use Rattle.plan_model.specs.declared.cut.Cut.{Cut}
use Rattle.plan_model.specs.declared.cut.CutRow.{CutRow}
use Rattle.plan_model.specs.declared.journal.Entry.{Entry}
use Rattle.plan_model.specs.Cut.{IsSoundCut, cut_of}
use Rattle.section_cut.specs.Change.{IsChange, HasRoomAt}
use Rattle.section_cut.proofs.Rows.{found_at}
use Rattle.plan_book.specs.declared.changes.ShelfChange.{ShelfChange}
use Rattle.plan_book.specs.declared.changes.ShelfChange.TheVariants as change
use Rattle.plan_book.specs.declared.shelf.Shelf.{Shelf}
use Rattle.plan_book.specs.Stored.{IsSpareFor, TakesRow}
use Rattle.plan_book.specs.Shelves.{blank, kept_cut, shelf_of, AreShelves}
use Rattle.plan_book.specs.Changes.{IsAlike, AreAlike, Widens, AreChanges, IsChangeOf, HaveAll, HasItsPlace, HasSpare, HoldsOfEach, cut_change_of}
use Rattle.plan_book.proofs.Publications.{names_rise_too}
use Rattle.plan_book.proofs.Edited.{found_beside}
use Rattle.plan_book.proofs.Widening.{alike_itself}

module _ (old new : List Shelf) (alike : AreAlike old new) where
  -- what is known of each name
  known_alike : (first : ℕ) (name : List ℕ) → IsAlike (shelf_of first old name) (shelf_of first new name)
  known_alike first name =
      let none = blank first name in
      elim (found_beside old new name none alike.count (λ k below. (alike.each k none below).name)) [
        | inl there ↦
            let one = ap (λ o. unwrap_or o none) there.2 in
            let other = ap (λ o. unwrap_or o none) there.3 in
            subst (IsAlike (shelf_of first old name)) (sym other)
            (subst (λ s. IsAlike s (get_or new there.0 none)) (sym one) (alike.each there.0 none there.1))
        | inr missing ↦
            let one = ap (λ o. unwrap_or o none) missing.0 in
            let other = ap (λ o. unwrap_or o none) missing.1 in
            subst (IsAlike (shelf_of first old name)) (sym other)
            (subst (λ s. IsAlike s none) (sym one) (alike_itself none))
      ]

  -- they say what was known
  pub alike_widens : (first : ℕ) → NamesRise (λ s. s.name) old → Widens first old new
  alike_widens first rise = record {
    rise = names_rise_too old new alike.count (λ k d below. (alike.each k d below).name) rise;
    known = known_alike first;
  }

  -- what an edit makes of their cuts
  pub changes_alike : (before after : Tables) (number : ℕ) (changes : List ShelfChange)
      → AreChanges before after number old changes → AreChanges before after number new changes
  changes_alike before after number changes made = record {
    count = made.count ∙ sym alike.count;
    each = λ k s c below.
        let within : k < length old = omega (arith, below, alike.count) in
        let same = alike.each k s within in
        let before_it = made.each k s c within in
        let change = cut_change_of (get_or changes k c) in
        record {
          change =
              subst (λ n. IsChange (cut_of before n) (cut_of after n) number (kept_cut (get_or new k s)) change) (sym same.name)
              (subst (λ cut. IsChange (cut_of before (get_or old k s).name) (cut_of after (get_or old k s).name) number cut change) (sym same.cut)
              before_it.change);
          spare = subst (λ cut. HasSpare cut (get_or changes k c)) (sym same.cut) before_it.spare;
        };
  }

  pub all_alike : (tables : Tables) → HaveAll tables old → HaveAll tables new
  all_alike tables all k d l =
      let name = (get_or tables.sections k d).name in
      named_too old new name alike.count (λ k s below. (alike.each k s below).name) ∙ all k d l
    where
      named_too : (xs ys : List Shelf) (name : List ℕ) → length ys ≡ length xs
          → ((k : ℕ) (s : Shelf) → k < length xs → (get_or ys k s).name ≡ (get_or xs k s).name)
          → is_named (λ (s : Shelf). s.name) ys name ≡ is_named (λ (s : Shelf). s.name) xs name
      named_too [] [] name long same = refl
      named_too [] (y ∷ ys) name long same = absurd (omega (arith, long))
      named_too (x ∷ xs) [] name long same = absurd (omega (arith, long))
      named_too (x ∷ xs) (y ∷ ys) name long same =
          rw (same 0 x (omega arith), named_too xs ys name (omega (arith, long)) (λ k s below. same (suc k) s (omega (arith, below)))) refl

-- each cut is sound
pub sound_cuts : (journal : List Entry) (first : ℕ) (shelves : List Shelf) → AreShelves journal first shelves
    → All (λ s. IfSome (kept_cut s) IsSoundCut) shelves
sound_cuts journal first shelves are k d l =
    let s = get_or shelves k d in
    subst (λ (o : Option Shelf). IfSome (kept_cut (unwrap_or o (blank first s.name))) IsSoundCut)
    (found_at (λ (s : Shelf). s.name) shelves k d are.rise l)
    (are.each s.name).cut.sound

takes_row : (place : ℕ) (spare : Vec CutRow Global) (cut : Option Cut) → IfSome cut (HasRoomAt place) → IfSome cut (λ c. IsSpareFor (length c.rows) spare)
    → IfSome cut (TakesRow place spare)
takes_row place spare None there room = tt
takes_row place spare (Some c) there room = record { there = there; memory = room }

-- a row changes, comes or goes where the cut has its place
has_its_place : (before after : Tables) (number : ℕ) (s : Shelf) (c : ShelfChange) → IsChangeOf before after number s c → HasItsPlace s c
has_its_place before after number s change.Untouched made = tt
has_its_place before after number s (change.Touched cut) made = tt
has_its_place before after number s (change.Row place row) made = made.change.0
has_its_place before after number s (change.Inserted place row spare) made = takes_row place spare (kept_cut s) made.change.0 made.spare
has_its_place before after number s (change.Removed place) made = made.change.0

pub have_their_places : (before after : Tables) (number : ℕ) (shelves : List Shelf) (changes : List ShelfChange)
    → AreChanges before after number shelves changes → HoldsOfEach HasItsPlace shelves changes
have_their_places before after number shelves changes made k s c below =
    has_its_place before after number (get_or shelves k s) (get_or changes k c) (made.each k s c below)
